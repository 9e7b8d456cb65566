-- What the bytes of a frame say to whoever gets them. Assumes nothing.
use Rattle.std.specs.Prelude.{ℕ, ◌+◌, ◌-◌, ◌*◌, Bool, if◌then◌else◌, ◌&&◌, List, length, take, drop, Some, None, Ok, Err, Option, Result, ◌==◌, nat_le, slice_index}
use Rattle.crc16.specs.Crc.{crc_of}
use Rattle.wire.specs.declared.message.Message.{Message}
use Rattle.wire.specs.declared.message.Reply.{Reply}
use Rattle.wire.specs.declared.refusal.Refusal.{Refusal}
use Rattle.wire.specs.declared.refusal.Refusal.TheVariants.{NotAReply, WrongCrc}
use Rattle.wire.specs.declared.unread.Unread.{Unread}
use Rattle.wire.specs.declared.unread.Unread.TheVariants.{NoFrame, Damaged}
use Rattle.wire.specs.Fields.{Fields, ReplyFields, fields_of, reply_fields_of}
use Rattle.wire.specs.Frames.{param_count}

-- Two bytes as a number, high byte first, from place i on.
abbrev pub number_at : List ℕ → ℕ → ℕ
number_at bs i = slice_index bs i * 256 + slice_index bs (i + 1)

-- How many parameter bytes the fifth byte announces.
abbrev pub count_in : List ℕ → ℕ
count_in bs = param_count (slice_index bs 4)

-- The bytes have the shape of a frame that begins with `start` and has `overhead` bytes besides its parameter: one more than
-- these at least, the first byte, and as many as the fifth byte says.
abbrev pub shaped : ℕ → ℕ → List ℕ → Bool
shaped start overhead bs = nat_le (overhead + 1) (length bs) && (slice_index bs 0 == start && length bs == count_in bs + overhead)

-- The fields at their places.
abbrev pub fields_in : List ℕ → Fields
fields_in bs = record { command = slice_index bs 1; address = number_at bs 2; param = take (count_in bs) (drop 5 bs) }

-- The fields of bytes that have the shape of such a frame.
abbrev pub shaped_fields : ℕ → ℕ → List ℕ → Option Fields
shaped_fields start overhead bs = if shaped start overhead bs then Some (fields_in bs) else None

-- The last two bytes are the CRC of the bytes before them.
abbrev pub crc_right : List ℕ → Bool
crc_right bs = crc_of (take (length bs - 2) bs) == number_at bs (length bs - 2)

-- What a PC reads in the bytes of a reply; the ACK is the third byte from the end. Bytes without the shape of a reply are
-- refused first, then a CRC that differs.
abbrev pub unpacked : List ℕ → Result ReplyFields Refusal
unpacked bs =
    if shaped 0x2E 8 bs
    then (if crc_right bs then Ok (record { fields = fields_in bs; ack = slice_index bs (length bs - 3) }) else Err WrongCrc)
    else Err NotAReply

-- What a whole frame says: its fields, or, where its CRC differs, only COMMAND and ADDRESS, which a reply repeats.
pub data FrameRead : Type 0 where
  intact : Fields → FrameRead
  damaged : (command address : ℕ) → FrameRead

-- What the bytes of a frame say that begins with `start` and has `overhead` bytes besides its parameter; None where they do not
-- have its shape.
abbrev pub frame_in : (start overhead : ℕ) → List ℕ → Option FrameRead
frame_in start overhead bs =
    if shaped start overhead bs
    then Some (if crc_right bs then intact (fields_in bs) else damaged (slice_index bs 1) (number_at bs 2))
    else None

-- What the interface reads in the bytes of a command.
abbrev pub command_in : List ℕ → Option FrameRead
command_in bs = frame_in 0x2F 7 bs

-- The result of the code's `unpack`, as plain values.
abbrev pub reply_result : Result Reply Refusal → Result ReplyFields Refusal
reply_result (Ok r) = Ok (reply_fields_of r)
reply_result (Err e) = Err e

-- The result of the code's `read_command`, as plain values.
abbrev pub command_result : Result Message Unread → Option FrameRead
command_result (Ok m) = Some (intact (fields_of m))
command_result (Err NoFrame) = None
command_result (Err (Damaged command address)) = Some (damaged command address)
