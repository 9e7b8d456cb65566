-- What is written in digits is read again. Assumes nothing.
use Rattle.std.proofs.Common.{◌≡◌, ℕ, suc, ◌/◌, ◌%◌, ◌<◌, List, [], ◌∷◌, get_or, Some, refl, ap, ◌∙◌, ap₂, arith}
use Rattle.std.proofs.lemmas.Bool.Decides.{nat_tests}
use Rattle.std.specs.List.{AllByRecursion}
use Rattle.hex_text.specs.Hex.{byte_before, byte_value, bytes_spelled, digit_value, hex_bytes, hex_digit, two_digits}

pub digit_back : (n : ℕ) → n < 16 → digit_value (hex_digit n) ≡ Some n
digit_back n h = grind (arith, nat_tests)

digit_ascii : (n : ℕ) → n < 16 → hex_digit n < 128
digit_ascii n h = grind (arith, nat_tests)

pub byte_back : (b : ℕ) → b < 256 → byte_value (hex_digit (b / 16)) (hex_digit (b % 16)) ≡ Some b
byte_back b h =
    ap₂ two_digits (digit_back (b / 16) (omega arith)) (digit_back (b % 16) (omega arith)) ∙ ap Some (omega arith)

pub bytes_back : (bs : List ℕ) → ((k : ℕ) → get_or bs k 0 < 256) → bytes_spelled (hex_bytes bs) ≡ Some bs
bytes_back [] h = refl
bytes_back (b ∷ bs) h = ap₂ byte_before (byte_back b (h 0)) (bytes_back bs (λ k. h (suc k)))

-- ---- no control characters

abbrev pub Printable : List ℕ → Type 0
Printable text = AllByRecursion (λ c. 31 < c) text

pub digit_printable : (n : ℕ) → 31 < hex_digit n
digit_printable n = grind (arith, nat_tests)

pub bytes_printable : (bs : List ℕ) → Printable (hex_bytes bs)
bytes_printable [] = tt
bytes_printable (b ∷ bs) = (omega arith, (digit_printable (b / 16), (digit_printable (b % 16), bytes_printable bs)))
