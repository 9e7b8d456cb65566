-- What a line asks for: `p` packs a command, `u` takes a reply apart. Assumes nothing.
use Rattle.std.specs.Prelude.{ℕ, ◌+◌, ◌-◌, ◌*◌, if◌then◌else◌, ◌&&◌, List, [], ◌∷◌, length, take, drop, Some, None, vec_items, Option, ◌==◌, nat_le, slice_index}
use Rattle.wire.specs.Fields.{Fields}
use Rattle.pcframe_requests.specs.declared.request.Request.{Request}
use Rattle.pcframe_requests.specs.declared.request.Request.TheVariants.{Pack, Unpack}
use Rattle.hex_text.specs.Hex.{byte_value, bytes_spelled}

-- What can be asked for.
pub data Asked : Type 0 where
  packing : Fields → Asked
  unpacking : List ℕ → Asked
  neither : Asked

-- The code's `Request`, if there is one, as plain values.
abbrev pub request_as : Option Request → Asked
request_as None = neither
request_as (Some (Pack command address param)) = packing (record { command = command; address = address; param = vec_items param })
request_as (Some (Unpack bytes)) = unpacking (vec_items bytes)

-- COMMAND and ADDRESS from their bytes.
abbrev pub head_from : Option ℕ → Option ℕ → Option ℕ → Option (ℕ × ℕ)
head_from None h l = None
head_from (Some c) None l = None
head_from (Some c) (Some h) None = None
head_from (Some c) (Some h) (Some l) = Some (c, h * 256 + l)

-- COMMAND and ADDRESS in front of a text: a blank and two digits, a blank and four digits.
abbrev pub head_spelled : List ℕ → Option (ℕ × ℕ)
head_spelled text =
    if nat_le 8 (length text) && (slice_index text 0 == 32 && slice_index text 3 == 32)
    then head_from (byte_value (slice_index text 1) (slice_index text 2)) (byte_value (slice_index text 4) (slice_index text 5))
    (byte_value (slice_index text 6) (slice_index text 7))
    else None

-- A packing, if its two parts are there.
abbrev pub packing_of : Option (ℕ × ℕ) → Option (List ℕ) → Asked
packing_of None p = neither
packing_of (Some head) None = neither
packing_of (Some head) (Some param) = packing (record { command = head.0; address = head.1; param = param })

-- An unpacking, if the text is one of bytes.
abbrev pub unpacking_of : Option (List ℕ) → Asked
unpacking_of None = neither
unpacking_of (Some bytes) = unpacking bytes

-- A line without the carriage return that may end it.
abbrev pub trimmed : List ℕ → List ℕ
trimmed line = if slice_index line (length line - 1) == 13 then take (length line - 1) line else line

-- What a trimmed line asks for, by its first character: 112 is p, 117 is u.
abbrev pub asked_by : List ℕ → Asked
asked_by [] = neither
asked_by (letter ∷ text) =
    if letter == 112 then packing_of (head_spelled text) (bytes_spelled (drop 8 text))
    else if letter == 117 then unpacking_of (bytes_spelled text)
    else neither

-- What a line asks for.
abbrev pub asked : List ℕ → Asked
asked line = asked_by (trimmed line)
