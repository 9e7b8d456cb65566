-- Bytes as hexadecimal text. Characters are their ASCII codes: 32 is a blank, 48 the digit 0, 65 and 97 the letters A and a.
-- Assumes nothing.
use Rattle.std.specs.Prelude.{ℕ, ◌+◌, ◌-◌, ◌*◌, ◌/◌, ◌%◌, if◌then◌else◌, ◌&&◌, List, [], ◌∷◌, ◌++◌, Some, None, Option, ◌==◌, nat_le, nat_lt}

-- The digit of a number below 16; letters are capital.
abbrev pub hex_digit : ℕ → ℕ
hex_digit n = if nat_lt n 10 then 48 + n else 55 + n

-- A byte as two digits.
abbrev pub hex_byte : ℕ → List ℕ
hex_byte b = hex_digit (b / 16) ∷ hex_digit (b % 16) ∷ []

-- An address as four digits.
abbrev pub hex_address : ℕ → List ℕ
hex_address n = hex_byte (n / 256) ++ hex_byte (n % 256)

-- Bytes as text, a blank before each.
abbrev pub hex_bytes : List ℕ → List ℕ
hex_bytes [] = []
hex_bytes (b ∷ bs) = 32 ∷ (hex_byte b ++ hex_bytes bs)

-- What a digit counts, capital or small; None where the character is none.
abbrev pub digit_value : ℕ → Option ℕ
digit_value c =
    if nat_le 48 c && nat_le c 57 then Some (c - 48)
    else if nat_le 65 c && nat_le c 70 then Some (c - 55)
    else if nat_le 97 c && nat_le c 102 then Some (c - 87)
    else None

-- Two digits together.
abbrev pub two_digits : Option ℕ → Option ℕ → Option ℕ
two_digits (Some h) (Some l) = Some (h * 16 + l)
two_digits (Some h) None = None
two_digits None l = None

-- The byte that two characters spell.
abbrev pub byte_value : ℕ → ℕ → Option ℕ
byte_value h l = two_digits (digit_value h) (digit_value l)

-- A byte before others.
abbrev pub byte_before : Option ℕ → Option (List ℕ) → Option (List ℕ)
byte_before (Some b) (Some bs) = Some (b ∷ bs)
byte_before (Some b) None = None
byte_before None o = None

-- The bytes that a text spells, each as two digits after one blank; None where the text is anything else.
abbrev pub bytes_spelled : List ℕ → Option (List ℕ)
bytes_spelled [] = Some []
bytes_spelled (c ∷ []) = None
bytes_spelled (c ∷ h ∷ []) = None
bytes_spelled (c ∷ h ∷ l ∷ text) = if c == 32 then byte_before (byte_value h l) (bytes_spelled text) else None
