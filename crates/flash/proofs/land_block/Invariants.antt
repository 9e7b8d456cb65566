use Rattle.std.proofs.Common.{◌≡◌, ◌+◌, drop}
use Rattle.flash.specs.Blocks.{landed}
use Rattle.flash.proofs.land_block.Given as goal

-- the values that are left, landed from the cell behind those that have landed, make the whole
abbrev pub invariant-loop-i : goal.invariant-loop-i
invariant-loop-i g l =
    landed g.L.Landing.rule (l.start + l.i) (drop l.i l.landing) l.memory ≡ landed g.L.Landing.rule l.start l.landing l.initial.memory
