-- Landing a block step by step, whole, torn and tried again. Assumes nothing but the laws of the rule.
use Rattle.std.proofs.Common.{◌≡◌, ℕ, zero, suc, ◌+◌, ◌-◌, ◌<◌, ◌≤◌, min, List, [], ◌∷◌, ◌++◌, length, get_or, take, drop, set, replicate, sym, refl, ap, ◌∙◌, ap₂, arith}
use native.Mathlib.Nat.{min-le_left}
use Rattle.std.proofs.lemmas.Grind.{common_steps}
use Rattle.std.proofs.lemmas.List.{length-drop, length-replicate, take-replicate}
use Rattle.byte_rows.specs.Bytes.{Bytes}
use Rattle.byte_rows.proofs.Bytes.{bytes_none, bytes_cons, bytes_append, bytes_take, bytes_drop}
use Rattle.flash.specs.Rules.{replacing, OnBytes, OnBlank, Idempotent}
use Rattle.flash.proofs.Rules.{replacing_idempotent, replacing_on_bytes}
use Rattle.flash.specs.Blocks.{blank, blanked, land_all, landed, torn_tries}

-- ---- one byte more

land_none : (f : ℕ → ℕ → ℕ) (os : List ℕ) → land_all f os [] ≡ os
land_none f [] = refl
land_none f (o ∷ os) = refl

land_more : (f : ℕ → ℕ → ℕ) (os vs : List ℕ) (i : ℕ) → i < length os → i < length vs →
    set (land_all f os (take i vs)) i (f (get_or os i 0) (get_or vs i 0)) ≡ land_all f os (take (suc i) vs)
land_more f [] vs i h k = absurd (omega arith)
land_more f (o ∷ os) [] i h k = absurd (omega arith)
land_more f (o ∷ os) (v ∷ vs) zero h k = ap (λ xs. f o v ∷ xs) (sym (land_none f os))
land_more f (o ∷ os) (v ∷ vs) (suc i) h k = ap (λ xs. f o v ∷ xs) (land_more f os vs i (omega arith) (omega arith))

land_keeps : (f : ℕ → ℕ → ℕ) (os vs : List ℕ) (i : ℕ) → get_or (land_all f os (take i vs)) i 0 ≡ get_or os i 0
land_keeps f [] vs i = refl
land_keeps f (o ∷ os) [] zero = refl
land_keeps f (o ∷ os) [] (suc i) = refl
land_keeps f (o ∷ os) (v ∷ vs) zero = refl
land_keeps f (o ∷ os) (v ∷ vs) (suc i) = land_keeps f os vs i

-- a value landed in the first cell, and then the others from the next cell upward
pub landed_more : (f : ℕ → ℕ → ℕ) (start v : ℕ) (vs os : List ℕ) → start < length os →
    landed f (start + 1) vs (set os start (f (get_or os start 0) v)) ≡ landed f start (v ∷ vs) os
landed_more f start v vs os h = grind (arith, common_steps)

-- where no value or no cell is left, nothing more lands
pub landed_end : (f : ℕ → ℕ → ℕ) (start : ℕ) (vs os : List ℕ) → (0 < length vs → length os ≤ start) → landed f start vs os ≡ os
landed_end f zero vs [] h = refl
landed_end f zero [] (o ∷ os) h = refl
landed_end f zero (v ∷ vs) (o ∷ os) h = absurd (omega (arith, h (omega arith)))
landed_end f (suc start) vs [] h = refl
landed_end f (suc start) vs (o ∷ os) h = ap (λ xs. o ∷ xs) (landed_end f start vs os (λ k. omega (arith, h k)))

-- no values land nothing
pub landed_none : (f : ℕ → ℕ → ℕ) (start : ℕ) (vs os : List ℕ) → os ≡ landed f start (take 0 vs) os
landed_none f start vs os = sym (landed_end f start [] os (λ h. omega arith))

-- ---- past the last cell

land_enough : (f : ℕ → ℕ → ℕ) (os vs : List ℕ) (n : ℕ) → (n < length vs → length os ≤ n) → land_all f os (take n vs) ≡ land_all f os vs
land_enough f [] vs n h = refl
land_enough f (o ∷ os) [] zero h = refl
land_enough f (o ∷ os) [] (suc n) h = refl
land_enough f (o ∷ os) (v ∷ vs) zero h = absurd (omega (arith, h (omega arith)))
land_enough f (o ∷ os) (v ∷ vs) (suc n) h = ap (λ xs. f o v ∷ xs) (land_enough f os vs n (λ k. omega (arith, h (omega arith))))

-- values past the last cell land nowhere
pub landed_enough : (f : ℕ → ℕ → ℕ) (start : ℕ) (vs os : List ℕ) (n : ℕ) → (n < length vs → length os ≤ start + n) →
    landed f start (take n vs) os ≡ landed f start vs os
landed_enough f start vs os n h =
    ap (λ xs. take start os ++ xs) (land_enough f (drop start os) vs n (λ k. omega (arith, h k, length-drop start os)))

-- ---- over what was landed before

-- two blocks from one address meet the same cells
over : (f g : ℕ → ℕ → ℕ) (start : ℕ) (vs ws os : List ℕ) →
    landed f start vs (landed g start ws os) ≡ take start os ++ land_all f (land_all g (drop start os) ws) vs
over f g zero vs ws os = refl
over f g (suc n) vs ws [] = refl
over f g (suc n) vs ws (o ∷ os) = ap (λ xs. o ∷ xs) (over f g n vs ws os)

land_again : (f : ℕ → ℕ → ℕ) → Idempotent f → (os vs : List ℕ) (k : ℕ) → Bytes os → Bytes vs →
    land_all f (land_all f os (take k vs)) vs ≡ land_all f os vs
land_again f again [] vs k b c = refl
land_again f again (o ∷ os) [] zero b c = refl
land_again f again (o ∷ os) [] (suc k) b c = refl
land_again f again (o ∷ os) (v ∷ vs) zero b c = refl
land_again f again (o ∷ os) (v ∷ vs) (suc k) b c =
    ap₂ (λ x xs. x ∷ xs) (again o v (b 0) (c 0)) (land_again f again os vs k (λ i. b (suc i)) (λ i. c (suc i)))

land_bytes : (f : ℕ → ℕ → ℕ) → OnBytes f → (os vs : List ℕ) → Bytes os → Bytes vs → Bytes (land_all f os vs)
land_bytes f on [] vs b c = bytes_none
land_bytes f on (o ∷ os) [] b c = b
land_bytes f on (o ∷ os) (v ∷ vs) b c =
    bytes_cons (f o v) (land_all f os vs) (on o v (b 0) (c 0)) (land_bytes f on os vs (λ i. b (suc i)) (λ i. c (suc i)))

pub landed_bytes : (f : ℕ → ℕ → ℕ) → OnBytes f → (start : ℕ) (vs os : List ℕ) → Bytes vs → Bytes os → Bytes (landed f start vs os)
landed_bytes f on start vs os c b =
    bytes_append (take start os) (land_all f (drop start os) vs) (bytes_take start os b)
    (land_bytes f on (drop start os) vs (bytes_drop start os b) c)

tries_bytes : (f : ℕ → ℕ → ℕ) → OnBytes f → (start : ℕ) (vs ks os : List ℕ) → Bytes vs → Bytes os → Bytes (torn_tries f start vs ks os)
tries_bytes f on start vs [] os c b = b
tries_bytes f on start vs (k ∷ ks) os c b =
    landed_bytes f on start (take k vs) (torn_tries f start vs ks os) (bytes_take k vs c) (tries_bytes f on start vs ks os c b)

-- torn at any length, any number of times, then landed whole is landed whole once
pub retried : (f : ℕ → ℕ → ℕ) → OnBytes f → Idempotent f → (start : ℕ) (vs ks os : List ℕ) → Bytes vs → Bytes os →
    landed f start vs (torn_tries f start vs ks os) ≡ landed f start vs os
retried f on again start vs [] os c b = refl
retried f on again start vs (k ∷ ks) os c b =
    let before = torn_tries f start vs ks os in
    over f f start vs (take k vs) before
    ∙ ap (λ xs. take start before ++ xs)
    (land_again f again (drop start before) vs k (bytes_drop start before (tries_bytes f on start vs ks os c b)) c)
    ∙ retried f on again start vs ks os c b

land_blank : (f : ℕ → ℕ → ℕ) → OnBlank f → (os vs : List ℕ) → Bytes vs →
    land_all f (land_all replacing os (replicate (length vs) 255)) vs ≡ land_all replacing os vs
land_blank f fresh [] vs c = refl
land_blank f fresh (o ∷ os) [] c = refl
land_blank f fresh (o ∷ os) (v ∷ vs) c = ap₂ (λ x xs. x ∷ xs) (fresh v (c 0)) (land_blank f fresh os vs (λ i. c (suc i)))

-- a block landed where all is blank leaves its values, whatever the rule
pub exact : (f : ℕ → ℕ → ℕ) → OnBlank f → (start : ℕ) (vs os : List ℕ) → Bytes vs →
    landed f start vs (blanked start (length vs) os) ≡ landed replacing start vs os
exact f fresh start vs os c =
    over f replacing start vs (replicate (length vs) 255) os ∙ ap (λ xs. take start os ++ xs) (land_blank f fresh (drop start os) vs c)

-- ---- blanking

pub blank_bytes : (n : ℕ) → Bytes (blank n)
blank_bytes zero = bytes_none
blank_bytes (suc n) = bytes_cons 255 (blank n) (omega arith) (blank_bytes n)

-- as many bytes blanked as there are is all blanked that were asked for
pub blanked_enough : (start n m : ℕ) (os : List ℕ) → m ≡ min n (length os - start) → landed replacing start (take m (blank m)) os ≡ blanked start n os
blanked_enough start n m os e =
    let least : m ≤ n = omega (arith, e, min-le_left n (length os - start)) in
    ap (λ vs. landed replacing start vs os) (take-replicate {X = ℕ} m m 255 (omega arith) ∙ sym (take-replicate {X = ℕ} m n 255 least))
    ∙ landed_enough replacing start (blank n) os m (λ k. omega (arith, e, k, length-replicate {A = ℕ} n 255))

pub blanked_again : (start n : ℕ) (ks os : List ℕ) → Bytes os →
    blanked start n (torn_tries replacing start (blank n) ks os) ≡ blanked start n os
blanked_again start n ks os b = retried replacing replacing_on_bytes replacing_idempotent start (blank n) ks os (blank_bytes n) b
