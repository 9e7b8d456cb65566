-- What pcframe answers to a line. Assumes nothing.
use Rattle.std.specs.Prelude.{ℕ, List, [], ◌∷◌, ◌++◌, length, Some, None, Ok, Err, codes, Option, Result}
use Rattle.wire.specs.Codes.{ack_name, ack_of, refusal_text}
use Rattle.wire.specs.declared.Ack.{Ack}
use Rattle.wire.specs.declared.Refusal.{Refusal}
use Rattle.wire.specs.Fields.{ReplyFields, Fields}
use Rattle.wire.specs.Frames.{command_frame}
use Rattle.wire.specs.Packing.{write_result}
use Rattle.wire.specs.Reading.{unpacked}
use Rattle.hex_text.specs.Hex.{hex_address, hex_byte, hex_bytes}
use Rattle.pcframe_requests.specs.Requests.{Asked, asked, neither, packing, unpacking}

-- Bytes with a blank between each two.
abbrev pub hex_line : List ℕ → List ℕ
hex_line [] = []
hex_line (b ∷ bs) = hex_byte b ++ hex_bytes bs

-- The name behind an ACK byte, where it has one.
abbrev pub ack_note : Option Ack → List ℕ
ack_note None = []
ack_note (Some a) = codes " (" ++ (ack_name a ++ codes ")")

-- An ACK byte as it is answered.
abbrev pub ack_text : ℕ → List ℕ
ack_text code = hex_byte code ++ ack_note (ack_of code)

-- A reply taken apart, as it is answered.
abbrev pub report : ReplyFields → List ℕ
report a =
    codes "command " ++ (hex_byte a.fields.command ++ (codes " address " ++ (hex_address a.fields.address
    ++ (codes " ACK " ++ (ack_text a.ack ++ (codes " parameter" ++ hex_bytes a.fields.param))))))

-- A frame, or the refusal to pack it.
abbrev pub frame_or_refusal : Result ℕ Refusal → List ℕ → List ℕ
frame_or_refusal (Ok n) text = text
frame_or_refusal (Err r) text = refusal_text r

-- A reply, or the refusal to unpack it.
abbrev pub report_or_refusal : Result ReplyFields Refusal → List ℕ
report_or_refusal (Ok a) = report a
report_or_refusal (Err r) = refusal_text r

-- What is answered to a command: its frame, or the refusal to pack it into a buffer for the longest command.
abbrev pub packed_line : Fields → List ℕ
packed_line f = frame_or_refusal (write_result (length f.param) 7 263) (hex_line (command_frame f))

-- What is answered to the bytes of a reply.
abbrev pub unpacked_line : List ℕ → List ℕ
unpacked_line bs = report_or_refusal (unpacked bs)

-- What is answered to a request.
abbrev pub answer_to : Asked → List ℕ
answer_to (packing f) = packed_line f
answer_to (unpacking bs) = unpacked_line bs
answer_to neither = codes "?"

-- What is answered to a line.
abbrev pub answered : List ℕ → List ℕ
answered line = answer_to (asked line)
