use Rattle.std.proofs.Common.{◌≡◌}
use Rattle.bank.specs.Effects.{put_to_sleep}
use Rattle.bank.proofs.Channels.{front_altered}
use Rattle.channel_commands.proofs.interface.sleep_all.Given as goal

abbrev pub invariant-loop-channel : goal.invariant-loop-channel
invariant-loop-channel g l = g.B.Bank.channels l.bank ≡ front_altered put_to_sleep (g.B.Bank.channels l.initial.bank) l.channel
