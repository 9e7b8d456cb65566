-- The formats: START, COMMAND, ADDRESS, PARAM_LEN, PARAM, in a reply ACK, and the CRC of all of these. Assumes nothing.
use Rattle.std.specs.Prelude.{ℕ, ◌/◌, ◌%◌, if◌then◌else◌, List, [], ◌∷◌, ◌++◌, length, Some, None, Option, ◌==◌}
use Rattle.crc16.specs.Crc.{crc_of}
use Rattle.wire.specs.Fields.{Fields, ReplyFields}

-- PARAM_LEN for 1 to 256 parameter bytes: the count itself, and 00 for 256.
abbrev pub param_len : ℕ → ℕ
param_len n = if n == 256 then 0 else n

-- How many parameter bytes a PARAM_LEN announces.
abbrev pub param_count : ℕ → ℕ
param_count len = if len == 0 then 256 else len

-- A number of 16 bits as two bytes, high byte first.
abbrev pub big_endian : ℕ → List ℕ
big_endian n = n / 256 ∷ n % 256 ∷ []

-- What stands before the parameter.
abbrev pub header : ℕ → Fields → List ℕ
header start f = start ∷ f.command ∷ f.address / 256 ∷ f.address % 256 ∷ param_len (length f.param) ∷ []

-- Bytes with their CRC behind them.
abbrev pub with_crc : List ℕ → List ℕ
with_crc body = body ++ big_endian (crc_of body)

-- A frame that begins with `start` and has `extra` between its parameter and its CRC.
abbrev pub frame : ℕ → Fields → List ℕ → List ℕ
frame start f extra = with_crc (header start f ++ (f.param ++ extra))

-- The bytes of a command.
abbrev pub command_frame : Fields → List ℕ
command_frame f = frame 0x2F f []

-- The bytes of a reply.
abbrev pub reply_frame : ReplyFields → List ℕ
reply_frame a = frame 0x2E a.fields (a.ack ∷ [])

-- The first byte of a reply, which has an ACK, or of a command, which has none, as in the two formats above; one function writes both.
abbrev pub start_with : Option ℕ → ℕ
start_with (Some ack) = 0x2E
start_with None = 0x2F

-- How many bytes it has besides its parameter.
abbrev pub overhead_with : Option ℕ → ℕ
overhead_with (Some ack) = 8
overhead_with None = 7
