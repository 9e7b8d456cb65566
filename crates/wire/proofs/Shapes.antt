-- Bytes that have the shape of a frame. Assumes nothing.
use Rattle.std.proofs.Common.{◌≡◌, ℕ, ◌+◌, ◌-◌, ◌≤◌, true, List, length, get_or, take, drop, Some, sym, ap, ◌∙◌, arith}
use Rattle.std.proofs.lemmas.List.{take_rest}
use Rattle.std.proofs.lemmas.Bool.Decides.{nat_tests}
use Rattle.std.proofs.lemmas.Bool.{cond-true}
use Rattle.wire.specs.Frames.{param_count}
use Rattle.wire.specs.Reading.{count_in, number_at, shaped, shaped_fields}

-- PARAM_LEN announces at least one byte
pub count_some : (len : ℕ) → 1 ≤ param_count len
count_some len = grind (arith, nat_tests)

pub shape_met : (start overhead : ℕ) (bs : List ℕ) → get_or bs 0 0 ≡ start → length bs ≡ count_in bs + overhead → shaped start overhead bs ≡ true
shape_met start overhead bs first long = grind (arith, nat_tests, count_some (get_or bs 4 0))

pub shape_parts : (start overhead : ℕ) (bs : List ℕ) → shaped start overhead bs ≡ true
    → (get_or bs 0 0 ≡ start) × (length bs ≡ count_in bs + overhead)
shape_parts start overhead bs shape = grind (arith, nat_tests)

pub fields_met : (start overhead count address : ℕ) (bs param : List ℕ) → get_or bs 0 0 ≡ start → count ≡ count_in bs
    → length bs ≡ count + overhead → address ≡ number_at bs 2 → param ≡ take count (take (length bs - 5) (drop 5 bs))
    → Some (record { command = get_or bs 1 0; address = address; param = param }) ≡ shaped_fields start overhead bs
fields_met start overhead count address bs param first counted long addressed cut =
    ap Some (λ i. record { command = get_or bs 1 0; address = addressed i; param = (cut ∙ ap (take count) (take_rest bs 5) ∙ ap (λ n. take n (drop 5 bs)) counted) i })
    ∙ sym (cond-true (shaped start overhead bs) _ _ (shape_met start overhead bs first (long ∙ ap (λ n. n + overhead) counted)))
