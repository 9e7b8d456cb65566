use Rattle.std.proofs.Common.{◌≡◌, ◌∙◌, length, get_or, arith, rules}
use Rattle.hex_text.proofs.Reading.{read_more}
use Rattle.hex_text.proofs.read.bytes_of.Goals as goal

pub loop-chunk-preserved : goal.loop-chunk-preserved
loop-chunk-preserved c =
    let chunk = c.in-Some.chunk.now in
    let steps = c.in-Some.ensures.steps in
    let three : length chunk ≡ 3 = omega arith in
    let blank : get_or chunk 0 0 ≡ 32 = search rules in (
      steps.0 ∙ c.loop-chunk.invariant.0,
      read_more _ chunk _ _ _ c.in-Some-byte_of.byte _ steps.1.0 three blank c.in-Some-byte_of.ensures c.in_ok-push.ensures.items c.loop-chunk.invariant.1,
    )
