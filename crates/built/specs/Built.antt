-- The four targets that are built in, one of each mode. Assumes nothing.
use Rattle.std.specs.Prelude.{[], ◌∷◌, ℕ}
use Rattle.flash.specs.Rules.{clearing, replacing}
use Rattle.bank.specs.declared.mode.Mode.{Mode}
use Rattle.bank.specs.declared.mode.Mode.TheVariants.{SiC2, SiLBLB, AtmBLB, AtmSK}
use Rattle.bank.specs.Channels.{Channel}
use Rattle.bank.specs.Facts.{TargetFacts}
use Rattle.targets.specs.Targets.{new_channel}

-- Their facts: 8,192 bytes of flash; in modes 0 and 1 pages of 512 and no EEPROM, in modes 2 and 3 pages of 64 and 512 bytes of it.
abbrev pub built_facts : Mode → TargetFacts
built_facts SiC2 = record { mode = SiC2; flash_size = 8192; page_size = 512; eeprom_size = 0; identity = 0x0A ∷ 0x00 ∷ 0x03 ∷ [] }
built_facts SiLBLB = record { mode = SiLBLB; flash_size = 8192; page_size = 512; eeprom_size = 0; identity = 0xF3 ∷ 0x30 ∷ 0x31 ∷ [] }
built_facts AtmBLB = record { mode = AtmBLB; flash_size = 8192; page_size = 64; eeprom_size = 512; identity = 0x93 ∷ 0x07 ∷ 0x31 ∷ [] }
built_facts AtmSK = record { mode = AtmSK; flash_size = 8192; page_size = 64; eeprom_size = 512; identity = 0x93 ∷ 0x07 ∷ 0x32 ∷ [] }

-- Their landing rules.
abbrev pub built_rule : Mode → ℕ → ℕ → ℕ
built_rule SiC2 = clearing
built_rule SiLBLB = clearing
built_rule AtmBLB = replacing
built_rule AtmSK = replacing

-- The built target of a mode, as it is when new.
abbrev pub built : Mode → Channel
built m = new_channel (built_facts m) (built_rule m)
