-- The neighbours law: one altered byte, or two neighbouring ones, alter the checksum. Assumes nothing.
use Rattle.std.proofs.Common.{◌≡◌, ℕ, zero, suc, ◌+◌, ◌*◌, ◌/◌, ◌%◌, ◌^◌, ◌<◌, List, [], ◌∷◌, length, get_or, sym, refl, ap, ◌∙◌, ap₂, add-zero, div-add-mod', arith}
use native.Mathlib.Nat.{suc_inj}
use lib.Bits.{bit_xor, xor_block, xor_comm, xor_lt, xor_mod, xor_self, xor_zero_r}
use Rattle.std.proofs.lemmas.List.{ext_get_or}
use Rattle.crc16.specs.Altered.{Altered}
use Rattle.byte_rows.specs.Bytes.{Bytes}
use Rattle.crc16.specs.Crc.{shifts, crc_step, crc_from}
use Rattle.crc16.proofs.Register.{shifts_linear, shifts_below, halves, low_up, upper_zero, xor_pairs, xor_cancel, xor_same}

-- ---- eight shifts lose nothing

kernel : (x : ℕ) → x < 2 ^ 16 → shifts 8 x ≡ 0 → x ≡ 0
kernel x h e =
    let hh : x / 256 < 256 = omega arith in
    let hl : x % 256 < 256 = omega arith in
    let split : x ≡ x / 256 * 256 + x % 256 = sym (div-add-mod' x 256) in
    let parts : bit_xor (shifts 8 (x / 256 * 256)) (x % 256 * 256) ≡ 0 = sym (halves (x / 256) (x % 256) hh hl) ∙ ap (shifts 8) (sym split) ∙ e in
    let same : shifts 8 (x / 256 * 256) ≡ x % 256 * 256 = xor_cancel _ _ parts in
    let high : x / 256 ≡ 0 = upper_zero (x / 256) hh (ap (λ y. y % 256) same ∙ omega arith) in
    let none : shifts 8 (x / 256 * 256) ≡ 0 = ap (λ y. shifts 8 (y * 256)) high ∙ low_up 0 (omega arith) in
    omega arith

pub injective : (x y : ℕ) → x < 2 ^ 16 → y < 2 ^ 16 → shifts 8 x ≡ shifts 8 y → x ≡ y
injective x y hx hy e =
    xor_cancel x y (kernel (bit_xor x y) (xor_lt 16 x y hx hy)
    (shifts_linear 8 x y hx hy ∙ ap (λ z. bit_xor z (shifts 8 y)) e ∙ xor_self (shifts 8 y)))

-- ---- one byte on

fed_below : (c b : ℕ) → c < 2 ^ 16 → b < 256 → bit_xor c (b * 256) < 2 ^ 16
fed_below c b hc hb = xor_lt 16 c (b * 256) hc (omega arith)

pub step_below : (c b : ℕ) → c < 2 ^ 16 → b < 256 → crc_step c b < 2 ^ 16
step_below c b hc hb = shifts_below 8 _ (fed_below c b hc hb)

pub fed_same : (c d a b : ℕ) → c < 2 ^ 16 → d < 2 ^ 16 → a < 256 → b < 256 → crc_step c a ≡ crc_step d b → bit_xor c (a * 256) ≡ bit_xor d (b * 256)
fed_same c d a b hc hd ha hb e = injective _ _ (fed_below c a hc ha) (fed_below d b hd hb) e

-- the same byte brings two registers together only if they were the same
pub same_register : (c d b : ℕ) → c < 2 ^ 16 → d < 2 ^ 16 → b < 256 → crc_step c b ≡ crc_step d b → c ≡ d
same_register c d b hc hd hb e = xor_same c d (b * 256) (fed_same c d b b hc hd hb hb e)

-- one register is brought to the same by the same byte only
pub same_byte : (c a b : ℕ) → c < 2 ^ 16 → a < 256 → b < 256 → crc_step c a ≡ crc_step c b → a ≡ b
same_byte c a b hc ha hb e =
    let same : a * 256 ≡ b * 256 =
    xor_same _ _ c (xor_comm (a * 256) c ∙ fed_same c c a b hc hc ha hb e ∙ xor_comm c (b * 256)) in
    omega arith

-- a byte leaves the lower half alone until the register moves on
low_kept : (x y : ℕ) → x % 256 ≡ bit_xor x (y * 256) % 256
low_kept x y = sym (xor_mod x (y * 256) 8 ∙ ap (bit_xor (x % 256)) (omega arith) ∙ xor_zero_r (x % 256))

-- the lower half after one byte tells which byte it was
same_low : (c a b : ℕ) → c < 2 ^ 16 → a < 256 → b < 256 → crc_step c a % 256 ≡ crc_step c b % 256 → a ≡ b
same_low c a b hc ha hb e =
    let hx : bit_xor a b < 256 = xor_lt 8 a b ha hb in
    let apart : bit_xor (crc_step c a) (crc_step c b) ≡ shifts 8 (bit_xor a b * 256) =
    sym (shifts_linear 8 _ _ (fed_below c a hc ha) (fed_below c b hc hb))
    ∙ ap (shifts 8) (xor_pairs c (a * 256) c (b * 256) ∙ ap (λ z. bit_xor z (bit_xor (a * 256) (b * 256))) (xor_self c)
    ∙ ap₂ bit_xor (sym (add-zero (a * 256))) (sym (add-zero (b * 256)))
    ∙ xor_block 8 a b 0 0 (omega arith) (omega arith) ∙ add-zero (bit_xor a b * 256)) in
    xor_cancel a b (upper_zero (bit_xor a b) hx
    (ap (λ z. z % 256) (sym apart) ∙ xor_mod (crc_step c a) (crc_step c b) 8
    ∙ ap (λ z. bit_xor z (crc_step c b % 256)) e ∙ xor_self (crc_step c b % 256)))

-- one register is brought to the same by the same two bytes only
pub same_pair : (c a a' b b' : ℕ) → c < 2 ^ 16 → a < 256 → a' < 256 → b < 256 → b' < 256
    → crc_step (crc_step c a) a' ≡ crc_step (crc_step c b) b' → (a ≡ b) × (a' ≡ b')
same_pair c a a' b b' hc ha ha' hb hb' e =
    let hs = step_below c a hc ha in
    let ht = step_below c b hc hb in
    let fed = fed_same (crc_step c a) (crc_step c b) a' b' hs ht ha' hb' e in
    let first = same_low c a b hc ha hb (low_kept _ a' ∙ ap (λ x. x % 256) fed ∙ sym (low_kept _ b')) in
    (first, same_byte (crc_step c a) a' b' hs ha' hb' (e ∙ ap (λ x. crc_step (crc_step c x) b') (sym first)))

-- ---- rows of bytes

pub from_below : (c : ℕ) (xs : List ℕ) → c < 2 ^ 16 → Bytes xs → crc_from c xs < 2 ^ 16
from_below c [] hc bx = hc
from_below c (x ∷ xs) hc bx = from_below (crc_step c x) xs (step_below c x hc (bx 0)) (λ k. bx (suc k))

-- the same bytes bring two registers together only if they were the same
pub same_start : (c d : ℕ) (xs : List ℕ) → c < 2 ^ 16 → d < 2 ^ 16 → Bytes xs → crc_from c xs ≡ crc_from d xs → c ≡ d
same_start c d [] hc hd bx e = e
same_start c d (x ∷ xs) hc hd bx e =
    same_register c d x hc hd (bx 0)
    (same_start (crc_step c x) (crc_step d x) xs (step_below c x hc (bx 0)) (step_below d x hd (bx 0)) (λ k. bx (suc k)) e)

-- rows that agree but at one place and the next are the same if their checksums are
agree : (place c : ℕ) (xs ys : List ℕ) → c < 2 ^ 16 → Bytes xs → Bytes ys → length xs ≡ length ys
    → ((k : ℕ) → (k ≡ place → ⊥) → (k ≡ place + 1 → ⊥) → get_or xs k 0 ≡ get_or ys k 0) → crc_from c xs ≡ crc_from c ys → xs ≡ ys
agree p c [] [] hc bx by l h e = refl
agree p c [] (y ∷ ys) hc bx by l h e = absurd (omega arith)
agree p c (x ∷ xs) [] hc bx by l h e = absurd (omega arith)
agree (suc p) c (x ∷ xs) (y ∷ ys) hc bx by l h e =
    let head : x ≡ y = h 0 (omega arith) (omega arith) in
    let tail = agree p (crc_step c x) xs ys (step_below c x hc (bx 0)) (λ k. bx (suc k)) (λ k. by (suc k)) (suc_inj l)
    (λ k i j. h (suc k) (λ q. i (suc_inj q)) (λ q. j (omega arith))) (e ∙ ap (λ z. crc_from (crc_step c z) ys) (sym head)) in
    ap₂ ◌∷◌ head tail
agree zero c (x ∷ []) (y ∷ []) hc bx by l h e = ap (λ z. z ∷ []) (same_byte c x y hc (bx 0) (by 0) e)
agree zero c (x ∷ []) (y ∷ y' ∷ ys) hc bx by l h e = absurd (omega arith)
agree zero c (x ∷ x' ∷ xs) (y ∷ []) hc bx by l h e = absurd (omega arith)
agree zero c (x ∷ x' ∷ xs) (y ∷ y' ∷ ys) hc bx by l h e =
    let rest : xs ≡ ys = ext_get_or 0 xs ys (suc_inj (suc_inj l)) (λ k i. h (suc (suc k)) (omega arith) (omega arith)) in
    let hs = step_below _ x' (step_below c x hc (bx 0)) (bx 1) in
    let ht = step_below _ y' (step_below c y hc (by 0)) (by 1) in
    let pair = same_pair c x x' y y' hc (bx 0) (bx 1) (by 0) (by 1)
    (same_start _ _ xs hs ht (λ k. bx (suc (suc k))) (e ∙ ap (crc_from _) (sym rest))) in
    ap₂ ◌∷◌ pair.0 (ap₂ ◌∷◌ pair.1 rest)

pub neighbours : (c : ℕ) (xs ys : List ℕ) → c < 2 ^ 16 → Bytes xs → Bytes ys → Altered xs ys → crc_from c xs ≡ crc_from c ys → ⊥
neighbours c xs ys hc bx by a e = a.unlike (agree a.place c xs ys hc bx by a.as_long a.elsewhere e)
