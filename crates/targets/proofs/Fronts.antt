-- A memory that is the front of an array, with a block landed in it. Assumes nothing.
use Rattle.std.proofs.Common.{◌≡◌, ℕ, List, ◌++◌, min, length, take, drop, sym, ◌∙◌, subst, arith}
use Rattle.std.proofs.lemmas.Grind.{common_steps}
use Rattle.std.proofs.lemmas.List.{take_at, take-replicate}
use Rattle.byte_rows.specs.Bytes.{Bytes}
use Rattle.flash.specs.Rules.{OnBytes}
use Rattle.flash.specs.Blocks.{blank, landed}
use Rattle.flash.proofs.Blocks.{landed_bytes}

-- its bytes are bytes again
pub front_bytes : (f : ℕ → ℕ → ℕ) → OnBytes f → (start size : ℕ) (vs cells front : List ℕ) → Bytes vs → Bytes (take size cells) →
    front ≡ landed f start vs (take size cells) → length front ≡ size → Bytes (take size (front ++ drop size cells))
front_bytes f on start size vs cells front c b e n =
    subst Bytes (sym (take_at front (drop size cells) size n ∙ e)) (landed_bytes f on start vs (take size cells) c b)

-- a blank block that there are units for is the front of the whole one, as long as the supply
pub blank_units : (count supply : ℕ) → blank (min count supply) ≡ take supply (blank count)
blank_units count supply = grind (arith, common_steps, take-replicate)
