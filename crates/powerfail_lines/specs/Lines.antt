-- The lines of powerfail. Assumes nothing.
use Rattle.std.specs.Prelude.{ℕ, Bool, true, false, if◌then◌else◌, ◌&&◌, List, ◌++◌, length, drop, Some, None, vec_items, codes, decimal, Option, ◌==◌, nat_le, slice_index}
use Rattle.bank.specs.declared.space.Space.{Space}
use Rattle.bank.specs.declared.space.Space.TheVariants.{Flash, Eeprom}
use Rattle.hex_text.specs.Hex.{byte_value, bytes_spelled, hex_bytes}
use Rattle.powerfail_lines.specs.declared.request.Request.{Request}

-- What can be asked for: a block to write at the start of a memory, with a supply of so many units.
pub record Asked : Type 0 where
  pub space : Space
  pub units : ℕ
  pub block : List ℕ

-- The code's `Request` as a plain record.
abbrev pub asked_of : Request → Asked
asked_of r = record { space = r.space; units = r.units; block = vec_items r.block }

-- The memory that a letter stands for: 102 is f, flash, and 101 is e, EEPROM.
abbrev pub space_of : ℕ → Option Space
space_of letter =
    if letter == 102 then Some Flash
    else if letter == 101 then Some Eeprom
    else None

-- A request, if its three parts are there.
abbrev pub all_parts : Option Space → Option ℕ → Option (List ℕ) → Option Asked
all_parts None u b = None
all_parts (Some s) None b = None
all_parts (Some s) (Some u) None = None
all_parts (Some s) (Some u) (Some b) = Some (record { space = s; units = u; block = b })

-- What a line asks for: a letter, a blank (32), the supply as two digits, and the block, each byte as two digits after a blank.
abbrev pub requested : List ℕ → Option Asked
requested line =
    if nat_le 4 (length line) && slice_index line 1 == 32
    then all_parts (space_of (slice_index line 0)) (byte_value (slice_index line 2) (slice_index line 3)) (bytes_spelled (drop 4 line))
    else None

-- How an answer is told.
abbrev pub answer_word : Bool → List ℕ
answer_word true = codes "answered"
answer_word false = codes "no answer"

-- How it is told whether a target is awake.
abbrev pub state_word : Bool → List ℕ
state_word true = codes "awake"
state_word false = codes "asleep"

-- What came of an attempt on a channel: its number, whether it was answered, whether the target was awake after it, and the bytes that
-- the memory then holds at the block's place.
abbrev pub outcome_line : ℕ → Bool → Bool → List ℕ → List ℕ
outcome_line channel answered awake held =
    decimal channel ++ (codes " " ++ (answer_word answered ++ (codes " " ++ (state_word awake ++ hex_bytes held))))
