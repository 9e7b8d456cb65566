-- Targets as channels. Assumes nothing.
use Rattle.std.specs.Prelude.{ℕ, false}
use Rattle.bank.specs.Channels.{Channel}
use Rattle.bank.specs.Facts.{TargetFacts, facts_of}
use Rattle.flash.specs.Blocks.{blank}
use Rattle.targets.specs.Memories.{bytes_in}
use Rattle.targets.specs.declared.target.Target.{Target}

-- The channel that a target is, with the rule that its type names.
abbrev pub channel : {L : Type 0} → (ℕ → ℕ → ℕ) → Target L → Channel
channel rule t = record {
  facts = facts_of t.facts;
  rule = rule;
  flash = bytes_in t.flash;
  eeprom = bytes_in t.eeprom;
  supply = t.power.supply;
  awake = t.power.awake;
}

-- A new target with these facts and this rule: every byte FF, supply 0, asleep.
abbrev pub new_channel : TargetFacts → (ℕ → ℕ → ℕ) → Channel
new_channel s rule = record { facts = s; rule = rule; flash = blank s.flash_size; eeprom = blank s.eeprom_size; supply = 0; awake = false }
