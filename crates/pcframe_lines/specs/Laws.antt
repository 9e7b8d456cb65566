-- What the answers come to. Assumes nothing.
use Rattle.std.specs.Prelude.{◌≡◌, ℕ, List}
use Rattle.wire.specs.Fields.{Fields, Fit, ReplyFields}
use Rattle.wire.specs.Frames.{command_frame, reply_frame}
use Rattle.wire.specs.Laws.{FitReply}
use Rattle.pcframe_requests.specs.Laws.{bytes_line, command_line}
use Rattle.pcframe_lines.specs.Lines.{answered, hex_line, report}

-- The line that asks what a reply says.
abbrev pub reply_line : ReplyFields → List ℕ
reply_line a = bytes_line (reply_frame a)

-- Whatever command is asked for, its frame is answered; whatever reply is shown, exactly its contents are answered.
pub record LineLaws (line : List ℕ) : Type 0 where
  pub packs : (f : Fields) → Fit f → line ≡ command_line f → answered line ≡ hex_line (command_frame f)
  pub unpacks : (a : ReplyFields) → FitReply a → line ≡ reply_line a → answered line ≡ report a
