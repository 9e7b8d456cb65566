-- Where a page of a target's flash can begin. Assumes nothing.
use Rattle.std.proofs.Common.{◌≡◌, ℕ, ◌*◌, ◌/◌, ◌≤◌, true, mul-le-mul, mul-le-mul_left, arith}
use native.Mathlib.Nat.{mul-div-le}
use Rattle.bank.specs.Sizes.{pages_fit}

-- a page is no larger than the flash
page_few : (flash page : ℕ) → pages_fit flash page ≡ true → page ≤ 32768
page_few flash page e = grind (arith, mul-div-le flash page, λ (h : 1 ≤ flash / page). mul-le-mul_left page h)

-- a byte counts few enough of them
pub start_few : (i flash page : ℕ) → pages_fit flash page ≡ true → i ≤ 255 → i * page ≤ 255 * 32768
start_few i flash page e l = mul-le-mul l (page_few flash page e)
