-- What is printed of bytes and addresses. Assumes nothing.
use Rattle.std.proofs.Common.{◌≡◌, ◌≢◌, ℕ, ◌^◌, ◌+◌, ◌-◌, ◌/◌, ◌%◌, ◌<◌, ◌≤◌, true, false, List, [], ◌∷◌, ◌++◌, length, get_or, take, sym, refl, ap, ◌∙◌, arith}
use Rattle.std.proofs.Math.Logic.{⊎_elim}
use Rattle.std.proofs.lemmas.Bool.{cases_lt, ne_eqb}
use Rattle.std.proofs.lemmas.List.{take_more}
use Rattle.std.specs.Fmt.{char_count, digit_glyph, digits, format_spec, padded_integral}
use Rattle.hex_text.specs.Hex.{hex_address, hex_byte, hex_bytes}

-- ---- an address by `{:04X}`

by_sixteens : (n : ℕ) → n < 65536 → hex_address n
    ≡ digit_glyph true (n / 16 / 16 / 16 % 16) ∷ digit_glyph true (n / 16 / 16 % 16) ∷ digit_glyph true (n / 16 % 16) ∷ digit_glyph true (n % 16) ∷ []
by_sixteens n small =
    let a : n / 256 / 16 ≡ n / 16 / 16 / 16 % 16 = omega arith in
    let b : n / 256 % 16 ≡ n / 16 / 16 % 16 = omega arith in
    let c : n % 256 / 16 ≡ n / 16 % 16 = omega arith in
    let d : n % 256 % 16 ≡ n % 16 = omega arith in
    rw (a, b, c, d)

-- by how many digits are not leading zeros
pub address_text : (n : ℕ) → n < 65536 → padded_integral (format_spec 32 0 4 4 (2 ^ 64 - 1)) false [] (digits 16 true n) ≡ hex_address n
unfolding padded_integral char_count digits
address_text n small = rw (by_sixteens n small) (⊎_elim
    (λ one. let a : n / 16 ≡ 0 = omega arith in rw a)
    (λ (one : 16 ≤ n). let a : n / 16 ≢ 0 = omega arith in ⊎_elim
    (λ two. let b : n / 16 / 16 ≡ 0 = omega arith in rw (ne_eqb _ 0 a, b))
    (λ (two : 256 ≤ n). let b : n / 16 / 16 ≢ 0 = omega arith in ⊎_elim
    (λ three. let c : n / 16 / 16 / 16 ≡ 0 = omega arith in rw (ne_eqb _ 0 a, ne_eqb _ 0 b, c))
    (λ (three : 4096 ≤ n). let c : n / 16 / 16 / 16 ≢ 0 = omega arith in
    let d : n / 16 / 16 / 16 / 16 ≡ 0 = omega arith in rw (ne_eqb _ 0 a, ne_eqb _ 0 b, ne_eqb _ 0 c, d))
    (cases_lt n 4096))
    (cases_lt n 256))
    (cases_lt n 16))

-- ---- bytes, one more

pub hex_append : (xs ys : List ℕ) → hex_bytes (xs ++ ys) ≡ hex_bytes xs ++ hex_bytes ys
hex_append [] ys = refl
hex_append (x ∷ xs) ys = ap (λ l. 32 ∷ (hex_byte x ++ l)) (hex_append xs ys)

pub hex_more : (xs : List ℕ) (i : ℕ) → i < length xs → hex_bytes (take i xs) ++ 32 ∷ hex_byte (get_or xs i 0) ≡ hex_bytes (take (i + 1) xs)
hex_more xs i h = sym (ap hex_bytes (take_more xs i 0 h) ∙ hex_append (take i xs) (get_or xs i 0 ∷ []))
