-- Lists of channels: asked and altered, put together and cut. Assumes nothing.
use Rattle.std.proofs.Common.{◌≡◌, ℕ, zero, suc, ◌-◌, ◌<◌, ◌≤◌, List, [], ◌∷◌, ◌++◌, map, length, take, drop, Some, None, sym, refl, ap, ◌∙◌, arith}
use native.Mathlib.Nat.{sub-zero, suc-sub-suc}
use Rattle.std.specs.Option.{option_map}
use Rattle.bank.specs.Channels.{AllSound, Channel, alter, ask}

pub alter_alter : (g h : Channel → Channel) (cs : List Channel) (i : ℕ) → alter g (alter h cs i) i ≡ alter (λ c. g (h c)) cs i
alter_alter g h [] i = refl
alter_alter g h (c ∷ cs) zero = refl
alter_alter g h (c ∷ cs) (suc i) = ap (λ xs. c ∷ xs) (alter_alter g h cs i)

-- ---- lists put together and cut

pub ask_past : {A : Type 0} (d : A) (f : Channel → A) (cs : List Channel) (n i : ℕ) → n ≤ i → ask d f (take n cs) i ≡ d
ask_past d f cs zero i h = refl
ask_past d f [] (suc n) i h = refl
ask_past d f (c ∷ cs) (suc n) zero h = absurd (omega arith)
ask_past d f (c ∷ cs) (suc n) (suc i) h = ask_past d f cs n i (omega arith)

pub ask_front : {A : Type 0} (d : A) (f : Channel → A) (cs : List Channel) (n i : ℕ) → i < n → ask d f (take n cs) i ≡ ask d f cs i
ask_front d f cs zero i h = absurd (omega arith)
ask_front d f [] (suc n) i h = refl
ask_front d f (c ∷ cs) (suc n) zero h = refl
ask_front d f (c ∷ cs) (suc n) (suc i) h = ask_front d f cs n i (omega arith)

pub ask_first : {A : Type 0} (d : A) (f : Channel → A) (xs ys : List Channel) (i : ℕ) → i < length xs → ask d f (xs ++ ys) i ≡ ask d f xs i
ask_first d f [] ys i h = absurd (omega arith)
ask_first d f (x ∷ xs) ys zero h = refl
ask_first d f (x ∷ xs) ys (suc i) h = ask_first d f xs ys i (omega arith)

pub ask_second : {A : Type 0} (d : A) (f : Channel → A) (xs ys : List Channel) (i : ℕ) → length xs ≤ i →
    ask d f (xs ++ ys) i ≡ ask d f ys (i - length xs)
ask_second d f [] ys i h = ap (ask d f ys) (sym (sub-zero i))
ask_second d f (x ∷ xs) ys zero h = absurd (omega arith)
ask_second d f (x ∷ xs) ys (suc i) h = ask_second d f xs ys i (omega arith) ∙ ap (ask d f ys) (sym (suc-sub-suc i (length xs)))

pub alter_past : (h : Channel → Channel) (cs : List Channel) (n i : ℕ) → n ≤ i → alter h (take n cs) i ≡ take n cs
alter_past h cs zero i l = refl
alter_past h [] (suc n) i l = refl
alter_past h (c ∷ cs) (suc n) zero l = absurd (omega arith)
alter_past h (c ∷ cs) (suc n) (suc i) l = ap (λ xs. c ∷ xs) (alter_past h cs n i (omega arith))

pub alter_front : (h : Channel → Channel) (cs : List Channel) (n i : ℕ) → alter h (take n cs) i ≡ take n (alter h cs i)
alter_front h cs zero i = refl
alter_front h [] (suc n) i = refl
alter_front h (c ∷ cs) (suc n) zero = refl
alter_front h (c ∷ cs) (suc n) (suc i) = ap (λ xs. c ∷ xs) (alter_front h cs n i)

pub alter_first : (h : Channel → Channel) (xs ys : List Channel) (i : ℕ) → i < length xs → alter h (xs ++ ys) i ≡ alter h xs i ++ ys
alter_first h [] ys i l = absurd (omega arith)
alter_first h (x ∷ xs) ys zero l = refl
alter_first h (x ∷ xs) ys (suc i) l = ap (λ zs. x ∷ zs) (alter_first h xs ys i (omega arith))

pub alter_second : (h : Channel → Channel) (xs ys : List Channel) (i : ℕ) → length xs ≤ i →
    alter h (xs ++ ys) i ≡ xs ++ alter h ys (i - length xs)
alter_second h [] ys i l = ap (alter h ys) (sym (sub-zero i))
alter_second h (x ∷ xs) ys zero l = absurd (omega arith)
alter_second h (x ∷ xs) ys (suc i) l =
    ap (λ zs. x ∷ zs) (alter_second h xs ys i (omega arith) ∙ ap (λ k. xs ++ alter h ys k) (sym (suc-sub-suc i (length xs))))

pub sound_append : (xs ys : List Channel) → AllSound xs → AllSound ys → AllSound (xs ++ ys)
sound_append [] ys a b = b
sound_append (x ∷ xs) ys a b = (a.0, sound_append xs ys a.1 b)

pub sound_take : (n : ℕ) (cs : List Channel) → AllSound cs → AllSound (take n cs)
sound_take zero cs a = tt
sound_take (suc n) [] a = tt
sound_take (suc n) (c ∷ cs) a = (a.0, sound_take n cs a.1)

-- ---- one channel after another

-- the list with h done to its first i channels
abbrev pub front_altered : (Channel → Channel) → List Channel → ℕ → List Channel
front_altered h cs i = map h (take i cs) ++ drop i cs

pub front_more : (h : Channel → Channel) (cs : List Channel) (i : ℕ) → i < length cs → alter h (front_altered h cs i) i ≡ front_altered h cs (suc i)
front_more h [] i l = absurd (omega arith)
front_more h (c ∷ cs) zero l = refl
front_more h (c ∷ cs) (suc i) l = ap (λ xs. h c ∷ xs) (front_more h cs i (omega arith))

pub front_all : (h : Channel → Channel) (cs : List Channel) (i : ℕ) → length cs ≤ i → front_altered h cs i ≡ map h cs
front_all h [] zero l = refl
front_all h [] (suc i) l = refl
front_all h (c ∷ cs) zero l = absurd (omega arith)
front_all h (c ∷ cs) (suc i) l = ap (λ xs. h c ∷ xs) (front_all h cs i (omega arith))

-- ---- what altering one channel keeps

pub length-alter : (h : Channel → Channel) (cs : List Channel) (i : ℕ) → length (alter h cs i) ≡ length cs
length-alter h [] i = refl
length-alter h (c ∷ cs) zero = refl
length-alter h (c ∷ cs) (suc i) = ap suc (length-alter h cs i)

-- what h keeps of a channel is kept of all
pub ask_kept : {A : Type 0} (d : A) (f : Channel → A) (h : Channel → Channel) → ((c : Channel) → f (h c) ≡ f c) → (cs : List Channel) (i j : ℕ) →
    ask d f (alter h cs i) j ≡ ask d f cs j
ask_kept d f h keeps [] i j = refl
ask_kept d f h keeps (c ∷ cs) zero zero = keeps c
ask_kept d f h keeps (c ∷ cs) zero (suc j) = refl
ask_kept d f h keeps (c ∷ cs) (suc i) zero = refl
ask_kept d f h keeps (c ∷ cs) (suc i) (suc j) = ask_kept d f h keeps cs i j

pub ask_other : {A : Type 0} (d : A) (f : Channel → A) (h : Channel → Channel) (cs : List Channel) (i j : ℕ) → (j ≡ i → ⊥) →
    ask d f (alter h cs i) j ≡ ask d f cs j
ask_other d f h [] i j n = refl
ask_other d f h (c ∷ cs) zero zero n = absurd (n refl)
ask_other d f h (c ∷ cs) zero (suc j) n = refl
ask_other d f h (c ∷ cs) (suc i) zero n = refl
ask_other d f h (c ∷ cs) (suc i) (suc j) n = ask_other d f h cs i j (λ e. n (ap suc e))

pub at_map : (h : Channel → Channel) (cs : List Channel) (i : ℕ) → ask None Some (map h cs) i ≡ option_map h (ask None Some cs i)
at_map h [] i = refl
at_map h (c ∷ cs) zero = refl
at_map h (c ∷ cs) (suc i) = at_map h cs i
