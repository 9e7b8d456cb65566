-- Text read as bytes, one more. Assumes nothing.
use Rattle.std.proofs.Common.{◌≡◌, ℕ, List, [], ◌∷◌, ◌++◌, length, get_or, Some, None, Option, refl, ap, append_assoc, arith}
use Rattle.std.specs.Option.{option_map}
use Rattle.hex_text.specs.Hex.{byte_before, byte_value, bytes_spelled}

more_read : (out : List ℕ) (b : ℕ) (o : Option (List ℕ)) → option_map (λ bs. (out ++ b ∷ []) ++ bs) o ≡ option_map (λ bs. out ++ bs) (byte_before (Some b) o)
more_read out b None = refl
more_read out b (Some bs) = ap Some (append_assoc out (b ∷ []) bs)

read_front : (chunk rest : List ℕ) (b : ℕ) → length chunk ≡ 3 → get_or chunk 0 0 ≡ 32 → Some b ≡ byte_value (get_or chunk 1 0) (get_or chunk 2 0)
    → bytes_spelled (chunk ++ rest) ≡ byte_before (Some b) (bytes_spelled rest)
read_front [] rest b three blank byte = absurd (omega arith)
read_front (c ∷ []) rest b three blank byte = absurd (omega arith)
read_front (c ∷ h ∷ []) rest b three blank byte = absurd (omega arith)
read_front (c ∷ h ∷ l ∷ []) rest b three blank byte = rw (blank, ← byte)
read_front (c ∷ h ∷ l ∷ d ∷ chunk) rest b three blank byte = absurd (omega arith)

pub read_more : (text chunk rest out out' : List ℕ) (b : ℕ) (whole : Option (List ℕ)) → text ≡ chunk ++ rest → length chunk ≡ 3
    → get_or chunk 0 0 ≡ 32 → Some b ≡ byte_value (get_or chunk 1 0) (get_or chunk 2 0) → out' ≡ out ++ b ∷ []
    → option_map (λ bs. out ++ bs) (bytes_spelled text) ≡ whole → option_map (λ bs. out' ++ bs) (bytes_spelled rest) ≡ whole
read_more text chunk rest out out' b whole parts three blank byte pushed inv =
    rw (pushed, more_read out b (bytes_spelled rest), ← read_front chunk rest b three blank byte, ← parts) inv
