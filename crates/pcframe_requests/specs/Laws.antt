-- Which lines ask for what. Assumes nothing.
use Rattle.std.specs.Prelude.{◌≡◌, ℕ, ◌<◌, List, ◌++◌, codes}
use Rattle.byte_rows.specs.Bytes.{Bytes}
use Rattle.hex_text.specs.Hex.{hex_address, hex_byte, hex_bytes}
use Rattle.wire.specs.Fields.{Fields}
use Rattle.pcframe_requests.specs.Requests.{asked, packing, unpacking}

-- The line that asks for the frame of a command.
abbrev pub command_line : Fields → List ℕ
command_line f =
    codes "p " ++ (hex_byte f.command ++ (codes " " ++ (hex_address f.address ++ hex_bytes f.param)))

-- The line that asks what the bytes of a reply say.
abbrev pub bytes_line : List ℕ → List ℕ
bytes_line bs = codes "u" ++ hex_bytes bs

-- The line of any command asks for exactly its frame, however many parameter bytes it has; the line of any bytes asks for
-- exactly what they say.
pub record RequestLaws (line : List ℕ) : Type 0 where
  pub packs : (f : Fields) → f.command < 256 → f.address < 65536 → Bytes f.param → line ≡ command_line f → asked line ≡ packing f
  pub unpacks : (bs : List ℕ) → Bytes bs → line ≡ bytes_line bs → asked line ≡ unpacking bs
