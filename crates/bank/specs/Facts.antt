-- A target's facts as a plain record. Assumes nothing.
use Rattle.std.specs.Prelude.{ℕ, Bool, if◌then◌else◌, List, Some, None, Option}
use Rattle.bank.specs.declared.mode.Mode.{Mode}
use Rattle.bank.specs.declared.facts.Facts.{Facts}
use Rattle.bank.specs.Sizes.{sizes_fit}
use Rattle.bank.specs.declared.space.Space.{Space}
use Rattle.bank.specs.declared.space.Space.TheVariants.{Flash, Eeprom}

-- What is fixed about a target: mode, sizes in bytes, and the three identity bytes.
pub record TargetFacts : Type 0 where
  pub mode : Mode
  pub flash_size : ℕ
  pub page_size : ℕ
  pub eeprom_size : ℕ
  pub identity : List ℕ

-- The facts that a value of the program holds.
abbrev pub facts_of : Facts → TargetFacts
facts_of f = record { mode = f.mode; flash_size = f.flash_size; page_size = f.page_size; eeprom_size = f.eeprom_size; identity = f.identity }

-- The sizes are within their bounds.
abbrev pub fits : TargetFacts → Bool
fits s = sizes_fit s.mode s.flash_size s.page_size s.eeprom_size

-- The facts, where their sizes are within their bounds.
abbrev pub fitting : TargetFacts → Option TargetFacts
fitting s = if fits s then Some s else None

-- How many bytes a memory of a target has.
abbrev pub size_of : Space → TargetFacts → ℕ
size_of Flash f = f.flash_size
size_of Eeprom f = f.eeprom_size
