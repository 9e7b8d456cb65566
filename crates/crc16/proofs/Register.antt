-- The register's laws: shifting is linear over exclusive or, and eight shifts lose nothing. Assumes nothing.
use Rattle.std.proofs.Common.{◌≡◌, ℕ, zero, suc, ◌+◌, ◌*◌, ◌/◌, ◌%◌, ◌^◌, ◌<◌, eqb, leb, List, map, get_or, sym, refl, ap, ◌∙◌, subst, ap₂, add-zero, div-add-mod', zero-add, arith}
use lib.Bits.{bit_xor, xor_block, xor_lt, xor_shifted, xor_zero_r, xor_self, xor_assoc, xor_comm}
use Rattle.std.proofs.lemmas.Bool.{cond-true, cond-false, le-leb, lt-leb, eq-eqb, eqb-true}
use Rattle.std.proofs.lemmas.List.FromFn.{get_or-map-range_with_len}
use Rattle.std.specs.List.{range_with_len}
use Rattle.crc16.specs.Crc.{shift, shifts}

-- ---- exclusive or

pub xor_pairs : (a b c d : ℕ) → bit_xor (bit_xor a b) (bit_xor c d) ≡ bit_xor (bit_xor a c) (bit_xor b d)
xor_pairs a b c d =
    xor_assoc a b (bit_xor c d)
    ∙ ap (bit_xor a) (sym (xor_assoc b c d) ∙ ap (λ x. bit_xor x d) (xor_comm b c) ∙ xor_assoc c b d)
    ∙ sym (xor_assoc a c (bit_xor b d))

xor_twice : (a x : ℕ) → bit_xor (bit_xor a x) x ≡ a
xor_twice a x = xor_assoc a x x ∙ ap (bit_xor a) (xor_self x) ∙ xor_zero_r a

pub xor_cancel : (a b : ℕ) → bit_xor a b ≡ 0 → a ≡ b
xor_cancel a b e = sym (xor_twice a b) ∙ ap (λ x. bit_xor x b) e

-- the same number on both sides goes
pub xor_same : (a b x : ℕ) → bit_xor a x ≡ bit_xor b x → a ≡ b
xor_same a b x e = sym (xor_twice a x) ∙ ap (λ y. bit_xor y x) e ∙ xor_twice b x

-- ---- what computing shows

-- two functions that agree at each number below n
same_below : {X : Type 0} (f g : ℕ → X) (n : ℕ) → map f (range_with_len 0 n) ≡ map g (range_with_len 0 n) → (k : ℕ) → k < n → f k ≡ g k
same_below f g n same k h =
    sym (get_or-map-range_with_len f 0 n k k (f 0) h (zero-add k)) ∙ ap (λ xs. get_or xs k (f 0)) same
    ∙ get_or-map-range_with_len g 0 n k k (f 0) h (zero-add k)

-- ---- one bit on

top : (t r : ℕ) → t < 2 → r < 0x8000 → shift (t * 2 ^ 15 + r) ≡ bit_xor (r * 2) (t * 0x1021)
unfolding shift
top zero r h k = cond-false (leb 0x8000 (0 + r)) _ _ (lt-leb _ _ (omega arith)) ∙ ap (λ x. x * 2) (omega arith) ∙ sym (xor_zero_r (r * 2))
top (suc zero) r h k =
    cond-true (leb 0x8000 (0x8000 + r)) _ _ (le-leb _ _ (omega arith))
    ∙ ap (λ x. bit_xor x 0x1021) (omega arith)
top (suc (suc t)) r h k = absurd (omega arith)

split15 : (a : ℕ) → a ≡ (a / 2 ^ 15) * 2 ^ 15 + a % 2 ^ 15
split15 a = sym (div-add-mod' a (2 ^ 15))

digit : (s t : ℕ) → s < 2 → t < 2 → bit_xor s t * 0x1021 ≡ bit_xor (s * 0x1021) (t * 0x1021)
digit zero t h k = refl
digit (suc zero) zero h k = refl
digit (suc zero) (suc zero) h k = refl
digit (suc zero) (suc (suc t)) h k = absurd (omega arith)
digit (suc (suc s)) t h k = absurd (omega arith)

double : (a b : ℕ) → bit_xor a b * 2 ≡ bit_xor (a * 2) (b * 2)
double a b =
    sym (add-zero _) ∙ sym (xor_block 1 a b 0 0 (omega arith) (omega arith)) ∙ ap₂ bit_xor (add-zero (a * 2)) (add-zero (b * 2))

pub shift_linear : (a b : ℕ) → a < 2 ^ 16 → b < 2 ^ 16 → shift (bit_xor a b) ≡ bit_xor (shift a) (shift b)
shift_linear a b ha hb =
    let s = a / 2 ^ 15 in
    let t = b / 2 ^ 15 in
    let hs : s < 2 = omega arith in
    let ht : t < 2 = omega arith in
    let hq : a % 2 ^ 15 < 2 ^ 15 = omega arith in
    let hr : b % 2 ^ 15 < 2 ^ 15 = omega arith in
    ap shift (ap₂ bit_xor (split15 a) (split15 b) ∙ xor_block 15 s t (a % 2 ^ 15) (b % 2 ^ 15) hq hr)
    ∙ top (bit_xor s t) (bit_xor (a % 2 ^ 15) (b % 2 ^ 15)) (xor_lt 1 s t hs ht) (xor_lt 15 _ _ hq hr)
    ∙ ap₂ bit_xor (double (a % 2 ^ 15) (b % 2 ^ 15)) (digit s t hs ht)
    ∙ xor_pairs (a % 2 ^ 15 * 2) (b % 2 ^ 15 * 2) (s * 0x1021) (t * 0x1021)
    ∙ ap₂ bit_xor (sym (top s (a % 2 ^ 15) hs hq)) (sym (top t (b % 2 ^ 15) ht hr))
    ∙ ap₂ (λ x y. bit_xor (shift x) (shift y)) (sym (split15 a)) (sym (split15 b))

pub shift_below : (a : ℕ) → a < 2 ^ 16 → shift a < 2 ^ 16
shift_below a h =
    let s = a / 2 ^ 15 in
    let hs : s < 2 = omega arith in
    let hq : a % 2 ^ 15 < 2 ^ 15 = omega arith in
    subst (λ x. x < 2 ^ 16) (sym (top s (a % 2 ^ 15) hs hq) ∙ ap shift (sym (split15 a)))
    (xor_lt 16 (a % 2 ^ 15 * 2) (s * 0x1021) (omega arith) (omega arith))

-- ---- n bits on

pub shifts_below : (n a : ℕ) → a < 2 ^ 16 → shifts n a < 2 ^ 16
unfolding shifts
shifts_below zero a h = h
shifts_below (suc n) a h = shifts_below n (shift a) (shift_below a h)

pub shifts_linear : (n a b : ℕ) → a < 2 ^ 16 → b < 2 ^ 16 → shifts n (bit_xor a b) ≡ bit_xor (shifts n a) (shifts n b)
unfolding shifts
shifts_linear zero a b ha hb = refl
shifts_linear (suc n) a b ha hb =
    ap (shifts n) (shift_linear a b ha hb) ∙ shifts_linear n (shift a) (shift b) (shift_below a ha) (shift_below b hb)

-- the lower half of the register comes to the upper half
pub low_up : (a : ℕ) → a < 256 → shifts 8 a ≡ a * 256
unfolding shift shifts
low_up a h = same_below (shifts 8) (λ b. b * 256) 256 refl a h

-- the register in halves: the upper one goes through the table, the lower one comes to the upper half
pub halves : (h l : ℕ) → h < 256 → l < 256 → shifts 8 (h * 256 + l) ≡ bit_xor (shifts 8 (h * 256)) (l * 256)
halves h l hh hl =
    ap (shifts 8) (sym (xor_shifted h 8 l hl)) ∙ shifts_linear 8 (h * 256) l (omega arith) (omega arith)
    ∙ ap (bit_xor (shifts 8 (h * 256))) (low_up l hl)

-- ---- the table

-- f at each number from n on, for k numbers
abbrev pub tabulated : (ℕ → ℕ) → ℕ → ℕ → List ℕ
tabulated f k n = map f (range_with_len n k)

get_or-tabulated : (f : ℕ → ℕ) (k n i : ℕ) → i < k → get_or (tabulated f k n) i 0 ≡ f (n + i)
get_or-tabulated f k n i h = get_or-map-range_with_len f n k i (n + i) 0 h refl

-- the whole table, computed bit by bit: the entry i is what the upper half i comes to
abbrev pub bitwise_table : List ℕ
unfolding shift shifts
bitwise_table = tabulated (λ i. shifts 8 (i * 256)) 256 0

-- eight bits on by the table
pub table_shifts : (r high : ℕ) → r < 2 ^ 16 → high ≡ r / 256 → bit_xor (get_or bitwise_table high 0) (r * 256 % 2 ^ 16) ≡ shifts 8 r
unfolding shift shifts
table_shifts r high h e =
    let hh : high < 256 = omega arith in
    let hl : r % 256 < 256 = omega arith in
    let up : r * 256 % 2 ^ 16 ≡ r % 256 * 256 = omega arith in
    ap₂ bit_xor (get_or-tabulated (λ i. shifts 8 (i * 256)) 256 0 high hh ∙ ap (λ i. shifts 8 (i * 256)) (zero-add high)) up
    ∙ sym (halves high (r % 256) hh hl) ∙ ap (shifts 8) (ap (λ i. i * 256 + r % 256) e ∙ div-add-mod' r 256)

-- ---- eight shifts lose nothing

-- the lower half of a table entry is 0 only at the entry 0
pub upper_zero : (h : ℕ) → h < 256 → shifts 8 (h * 256) % 256 ≡ 0 → h ≡ 0
unfolding shift shifts
upper_zero h hh e =
    eqb-true h 0 (sym (same_below (λ i. eqb (shifts 8 (i * 256) % 256) 0) (λ i. eqb i 0) 256 refl h hh) ∙ eq-eqb _ 0 e)
