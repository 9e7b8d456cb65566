-- A channel of a pair is the channel of one of its banks. Assumes nothing.
use Rattle.std.proofs.Common.{◌≡◌, ℕ, ◌-◌, ◌<◌, ◌≤◌, cond, Option, Some, None, List, ◌++◌, length, take, nat_le, nat_lt, sym, ap, ◌∙◌}
use Rattle.std.proofs.lemmas.Bool.{cond_both, leb-true, leb-false, ltb-true, ltb-false}
use Rattle.bank.specs.Channels.{Channel, alter, ask}
use Rattle.bank.proofs.Channels.{alter_first, alter_front, alter_past, alter_second, ask_first, ask_front, ask_past, ask_second}
use Rattle.pair.specs.Places.{paired, placed}
use Rattle.pair.specs.PlacesLemmas.{paired_long}
use Rattle.pair.specs.declared.place.Place.{Place}
use Rattle.pair.specs.declared.place.Place.TheVariants.{First, Second}

-- ---- by place

-- what f says of the channel at a place, and the pair's list with h done to it
abbrev pub ask_at : {A : Type 0} → A → (Channel → A) → List Channel → List Channel → Option Place → A
ask_at d f xs ys (Some (First i)) = ask d f xs i
ask_at d f xs ys (Some (Second i)) = ask d f ys i
ask_at d f xs ys None = d

abbrev pub alter_at : (Channel → Channel) → List Channel → List Channel → Option Place → List Channel
alter_at h xs ys (Some (First i)) = paired (alter h xs i) ys
alter_at h xs ys (Some (Second i)) = paired xs (alter h ys i)
alter_at h xs ys None = paired xs ys

by_place : (P : Option Place → Type 0) (firsts i : ℕ) → (8 ≤ i → P None) → (i < 8 → i < firsts → P (Some (First i))) →
    (i < 8 → firsts ≤ i → P (Some (Second (i - firsts)))) → P (placed firsts i)
by_place P firsts i outside first second =
    cond_both (nat_le 8 i) None (cond (nat_lt i firsts) (Some (First i)) (Some (Second (i - firsts)))) P
    (λ e. outside (leb-true 8 i e))
    (λ e. cond_both (nat_lt i firsts) (Some (First i)) (Some (Second (i - firsts))) P
    (λ e'. first (leb-false 8 i e) (ltb-true i firsts e'))
    (λ e'. second (leb-false 8 i e) (ltb-false i firsts e')))

pub asked : {A : Type 0} (d : A) (f : Channel → A) (xs ys : List Channel) (i : ℕ) (p : Option Place) → p ≡ placed (length xs) i →
    ask d f (paired xs ys) i ≡ ask_at d f xs ys p
asked d f xs ys i p e =
    by_place (λ q. ask d f (paired xs ys) i ≡ ask_at d f xs ys q) (length xs) i
    (λ past. ask_past d f (xs ++ ys) 8 i past)
    (λ few l. ask_front d f (xs ++ ys) 8 i few ∙ ask_first d f xs ys i l)
    (λ few l. ask_front d f (xs ++ ys) 8 i few ∙ ask_second d f xs ys i l)
    ∙ ap (ask_at d f xs ys) (sym e)

pub altered : (h : Channel → Channel) (xs ys : List Channel) (i : ℕ) (p : Option Place) → p ≡ placed (length xs) i →
    alter h (paired xs ys) i ≡ alter_at h xs ys p
altered h xs ys i p e =
    by_place (λ q. alter h (paired xs ys) i ≡ alter_at h xs ys q) (length xs) i
    (λ past. alter_past h (xs ++ ys) 8 i past)
    (λ few l. alter_front h (xs ++ ys) 8 i ∙ ap (take 8) (alter_first h xs ys i l))
    (λ few l. alter_front h (xs ++ ys) 8 i ∙ ap (take 8) (alter_second h xs ys i l))
    ∙ ap (alter_at h xs ys) (sym e)

-- ---- the answers of the pair's two arms

pub first_told : {A : Type 0} (d : A) (f : Channel → A) (xs ys : List Channel) (i j : ℕ) → Some (First j) ≡ placed (length xs) i →
    ask d f (paired xs ys) i ≡ ask d f xs j
first_told d f xs ys i j p = asked d f xs ys i (Some (First j)) p

pub second_told : {A : Type 0} (d : A) (f : Channel → A) (xs ys : List Channel) (i j : ℕ) → Some (Second j) ≡ placed (length xs) i →
    ask d f (paired xs ys) i ≡ ask d f ys j
second_told d f xs ys i j p = asked d f xs ys i (Some (Second j)) p

pub first_done : (h : Channel → Channel) (xs ys : List Channel) (i j : ℕ) (zs : List Channel) → zs ≡ alter h xs j →
    Some (First j) ≡ placed (length xs) i → paired zs ys ≡ alter h (paired xs ys) i
first_done h xs ys i j zs e p = ap (λ l. paired l ys) e ∙ sym (altered h xs ys i (Some (First j)) p)

pub second_done : (h : Channel → Channel) (xs ys : List Channel) (i j : ℕ) (zs : List Channel) → zs ≡ alter h ys j →
    Some (Second j) ≡ placed (length xs) i → paired xs zs ≡ alter h (paired xs ys) i
second_done h xs ys i j zs e p = ap (paired xs) e ∙ sym (altered h xs ys i (Some (Second j)) p)

-- what a call of a pair needs
pub ruleset handed_on = (first_told, second_told, first_done, second_done, paired_long)
