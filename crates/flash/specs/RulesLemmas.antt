-- Clearing keeps the laws: the laws of its impl cite this. Assumes nothing.
use Rattle.std.specs.Prelude.{◌≡◌, ℕ, ◌+◌, ◌*◌, ◌/◌, ◌%◌, ◌≤◌, min, bit_and, refl}
use Rattle.std.proofs.Common.{sym, ap, ap₂, ◌∙◌, arith}
use Rattle.std.proofs.Math.Nat.{min-eq_left, min-le_right}
use Rattle.std.proofs.Math.Arith.{bin_ind}
use Rattle.std.specs.Int.Bits.{and_step}
use Rattle.std.proofs.lemmas.Nat.{and_mask, and_comm, and_le_l}
use Rattle.flash.specs.Rules.{Idempotent, OnBlank, OnBytes, clearing}

pub clearing_on_bytes : OnBytes clearing
clearing_on_bytes o v h k = omega (arith, and_le_l o v)

pub clearing_onblank : OnBlank clearing
clearing_onblank v h = and_comm 255 v ∙ and_mask v 8 ∙ omega arith

and_again : (o v : ℕ) → bit_and (bit_and o v) v ≡ bit_and o v
and_again =
    bin_ind (λ o. (v : ℕ) → bit_and (bit_and o v) v ≡ bit_and o v) (λ v. refl) (λ o ih v.
    let x = bit_and o v in
    let m = min (o % 2) (v % 2) in
    let e : x ≡ bit_and (o / 2) (v / 2) * 2 + m = and_step o v in
    let l : m ≤ v % 2 = min-le_right (o % 2) (v % 2) in
    let half : x / 2 ≡ bit_and (o / 2) (v / 2) = omega arith in
    let low : x % 2 ≡ m = omega arith in
    and_step x v
    ∙ ap₂ (λ a b. a * 2 + b) (ap (λ a. bit_and a (v / 2)) half ∙ ih (v / 2)) (ap (λ a. min a (v % 2)) low ∙ min-eq_left l)
    ∙ sym e)

pub clearing_idempotent : Idempotent clearing
clearing_idempotent o v h k = and_again o v
