use Rattle.std.proofs.Common.{rules}
use Rattle.flash.specs.Blocks.{blank}
use Rattle.flash.specs.Rules.{replacing}
use Rattle.flash.proofs.Blocks.{blank_bytes}
use Rattle.flash.proofs.Rules.{replacing_on_bytes}
use Rattle.targets.proofs.Fronts.{front_bytes}
use Rattle.targets.proofs.memory.Memory.blank_out.Goals as goal

pub invariant_of-self-clause-bytes : goal.invariant_of-self-clause-bytes
invariant_of-self-clause-bytes g c =
    let count = c.args.count in
    front_bytes replacing replacing_on_bytes c.args.start _ (blank count) _ _ (blank_bytes count)
    c.args.self.now.bytes c.blank_block.ensures.blanks (search rules)
