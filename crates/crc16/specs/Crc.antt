-- CRC-16/XMODEM, bit by bit: polynomial 0x1021, start 0x0000, highest bit first, no final inversion.
-- The register is a number below 65,536. Assumes nothing.
use Rattle.std.specs.Prelude.{ℕ, zero, suc, ◌*◌, ◌%◌, if◌then◌else◌, List, bit_xor, fold, nat_le}

-- After one more bit: the register moves up one place, and where a 1 falls out at the top the polynomial is XORed in.
unfoldable pub shift : ℕ → ℕ
shift c = if nat_le 0x8000 c then bit_xor (c * 2 % 0x10000) 0x1021 else c * 2

-- After n more bits.
unfoldable pub shifts : ℕ → ℕ → ℕ
shifts zero c = c
shifts (suc n) c = shifts n (shift c)

-- After one more byte: it is XORed into the upper half of the register, which then takes eight more bits.
abbrev pub crc_step : ℕ → ℕ → ℕ
crc_step c b = shifts 8 (bit_xor c (b * 256))

-- The register after some bytes, begun at c.
abbrev pub crc_from : ℕ → List ℕ → ℕ
crc_from c bs = fold crc_step c bs

-- The checksum of some bytes.
abbrev pub crc_of : List ℕ → ℕ
crc_of bs = crc_from 0 bs
