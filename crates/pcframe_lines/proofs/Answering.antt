-- To the line of any command its frame is answered, and to the line of any reply its contents. Assumes nothing.
use Rattle.std.proofs.Common.{◌≡◌, ℕ, ◌+◌, ◌≤◌, List, [], ◌∷◌, length, Ok, ap, ◌∙◌, arith}
use Rattle.std.proofs.lemmas.Bool.Decides.{nat_tests}
use Rattle.byte_rows.proofs.Bytes.{bytes_cons, bytes_none}
use Rattle.wire.specs.Fields.{Fields, Fit, ReplyFields}
use Rattle.wire.specs.Frames.{command_frame, reply_frame}
use Rattle.wire.specs.Laws.{FitReply}
use Rattle.wire.specs.Packing.{write_result}
use Rattle.wire.proofs.Laws.{frame_bytes, frame_unpacked}
use Rattle.pcframe_requests.specs.Laws.{RequestLaws, command_line}
use Rattle.pcframe_lines.specs.Laws.{LineLaws, reply_line}
use Rattle.pcframe_lines.specs.Lines.{answer_to, answered, frame_or_refusal, hex_line, report, report_or_refusal}

-- the buffer holds the longest command
longest_fits : (n : ℕ) → 1 ≤ n → n ≤ 256 → write_result n 7 263 ≡ Ok (n + 7)
longest_fits n some few = grind (arith, nat_tests)

packs : (line : List ℕ) (f : Fields) → RequestLaws line → Fit f → line ≡ command_line f → answered line ≡ hex_line (command_frame f)
packs line f asks fit e =
    ap answer_to (asks.packs f fit.command fit.address fit.bytes e)
    ∙ ap (λ r. frame_or_refusal r (hex_line (command_frame f))) (longest_fits (length f.param) fit.counted.some fit.counted.few)

unpacks : (line : List ℕ) (a : ReplyFields) → RequestLaws line → FitReply a → line ≡ reply_line a → answered line ≡ report a
unpacks line a asks fit e =
    let bytes = frame_bytes 0x2E a.fields (a.ack ∷ []) (omega arith) fit.fields (bytes_cons a.ack [] fit.ack bytes_none) in
    ap answer_to (asks.unpacks (reply_frame a) bytes e) ∙ ap report_or_refusal (frame_unpacked a fit.fields.counted)

pub line_laws : (line : List ℕ) → RequestLaws line → LineLaws line
line_laws line asks = record { packs = λ f. packs line f asks; unpacks = λ a. unpacks line a asks }
