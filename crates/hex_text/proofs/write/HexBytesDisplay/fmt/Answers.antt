use Rattle.std.proofs.Common.{rules}
use Rattle.std.proofs.Output.{has_written_of_eq, has_written_append}
use Rattle.hex_text.proofs.Printing.{hex_more}
use Rattle.hex_text.proofs.write.HexBytesDisplay.fmt.Goals as goal

pub loop-byte-preserved : goal.loop-byte-preserved
loop-byte-preserved g c plain =
    let before = c.loop-byte.invariant plain in
    has_written_of_eq _ _ _ _ _ (hex_more _ _ c.loop-byte-test.true)
    (has_written_append _ _ _ _ _ _ before (c.write.ensures.writes before.plain (search rules)))
