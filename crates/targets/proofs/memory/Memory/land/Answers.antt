use Rattle.std.proofs.Common.{rules}
use Rattle.targets.proofs.Fronts.{front_bytes}
use Rattle.targets.proofs.memory.Memory.land.Goals as goal

pub invariant_of-self-clause-bytes : goal.invariant_of-self-clause-bytes
invariant_of-self-clause-bytes g c =
    front_bytes g.L.Landing.rule g.met.L.Landing.onbytes c.args.start _ _ _ _ (λ k. (c.type_inv.values k).fits)
    c.args.self.now.bytes c.land_block.ensures.lands (search rules)
