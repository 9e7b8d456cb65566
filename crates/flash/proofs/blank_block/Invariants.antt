use Rattle.std.proofs.Common.{◌≡◌, length}
use Rattle.flash.specs.Blocks.{blanked}
use Rattle.flash.proofs.blank_block.Given as goal

-- the bytes that are left, blanked in the cells that are left, make the whole
abbrev pub invariant-loop-i : goal.invariant-loop-i
invariant-loop-i l = record {
  cells : l.i-iterator.iter.end ≡ length l.memory;
  left : blanked l.i-iterator.iter.start l.i-iterator.n l.memory ≡ blanked l.start l.count l.initial.memory;
}
