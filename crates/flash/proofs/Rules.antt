-- Replacing keeps the laws. Assumes nothing.
use Rattle.std.proofs.Common.{refl}
use Rattle.flash.specs.Rules.{Idempotent, OnBytes, replacing}

pub replacing_on_bytes : OnBytes replacing
replacing_on_bytes o v h k = k

pub replacing_idempotent : Idempotent replacing
replacing_idempotent o v h k = refl
