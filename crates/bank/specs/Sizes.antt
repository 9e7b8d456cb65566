-- The bounds of a target's sizes. Assumes nothing.
use Rattle.std.specs.Prelude.{ℕ, ◌/◌, ◌%◌, Bool, ◌&&◌, ◌==◌, nat_le}
use Rattle.bank.specs.declared.mode.Mode.{Mode}
use Rattle.bank.specs.declared.mode.Mode.TheVariants.{SiC2, SiLBLB, AtmBLB, AtmSK}

-- Flash of this size, in pages of that size: 1 to 256 whole pages, of at least one byte, and no more than 32,768 bytes.
abbrev pub pages_fit : ℕ → ℕ → Bool
pages_fit flash page = nat_le 1 page && (flash % page == 0 && (nat_le flash 32768 && (nat_le 1 (flash / page) && nat_le (flash / page) 256)))

-- The most EEPROM that a target of each mode can have: none in modes 0 and 1.
abbrev pub eeprom_most : Mode → ℕ
eeprom_most SiC2 = 0
eeprom_most SiLBLB = 0
eeprom_most AtmBLB = 4096
eeprom_most AtmSK = 4096

-- The sizes of flash, page and EEPROM are within their bounds.
abbrev pub sizes_fit : Mode → ℕ → ℕ → ℕ → Bool
sizes_fit mode flash page eeprom = pages_fit flash page && nat_le eeprom (eeprom_most mode)
