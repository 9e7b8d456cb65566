-- What each call does to the channel that it names, and what it answers. Assumes nothing.
use Rattle.std.specs.Prelude.{ℕ, ◌+◌, ◌-◌, Bool, true, false, if◌then◌else◌, ◌&&◌, List, length, take, drop, nat_le, nat_lt}
use Rattle.flash.specs.Rules.{replacing}
use Rattle.flash.specs.Blocks.{blank, landed}
use Rattle.bank.specs.declared.space.Space.{Space}
use Rattle.bank.specs.declared.space.Space.TheVariants.{Flash, Eeprom}
use Rattle.bank.specs.Channels.{Channel}

-- ---- supply and sleep

-- The channel with another supply, awake or asleep.
abbrev pub with_power : ℕ → Bool → Channel → Channel
with_power n awake c = record { facts = c.facts; rule = c.rule; flash = c.flash; eeprom = c.eeprom; supply = n; awake = awake }

-- It has supply: only then does it hear enter and sleep.
abbrev pub powered : Channel → Bool
powered c = nat_lt 0 c.supply

-- After enter: awake, if it has supply.
abbrev pub entered : Channel → Channel
entered c = if powered c then with_power c.supply true c else c

-- After sleep: asleep, if it has supply.
abbrev pub put_to_sleep : Channel → Channel
put_to_sleep c = if powered c then with_power c.supply false c else c

-- After a new supply of n units: asleep.
abbrev pub supplied : ℕ → Channel → Channel
supplied n c = with_power n false c

-- ---- ranges

-- The bytes of one of the two memories.
abbrev pub memory : Space → Channel → List ℕ
memory Flash c = c.flash
memory Eeprom c = c.eeprom

-- The channel with other bytes in one of the two memories.
abbrev pub with_memory : Space → List ℕ → Channel → Channel
with_memory Flash os c = record { facts = c.facts; rule = c.rule; flash = os; eeprom = c.eeprom; supply = c.supply; awake = c.awake }
with_memory Eeprom os c = record { facts = c.facts; rule = c.rule; flash = c.flash; eeprom = os; supply = c.supply; awake = c.awake }

-- A range is inside a memory of so many bytes if it is not empty and ends no later than the memory.
abbrev pub inside : ℕ → ℕ → ℕ → Bool
inside size start count = nat_lt 0 count && nat_le (start + count) size

-- The target is awake and has the range.
abbrev pub reached : Space → ℕ → ℕ → Channel → Bool
reached space start count c = c.awake && inside (length (memory space c)) start count

-- ---- read

-- The caller's buffer after a read that fills it: the bytes of the range, or what it held where no answer comes.
abbrev pub read_into : Space → ℕ → List ℕ → Channel → List ℕ
read_into space start buffer c =
    if reached space start (length buffer) c then take (length buffer) (drop start (memory space c)) else buffer

-- ---- write and erase

-- After count units were used, or all where there were fewer: asleep where none is left, also after the last byte.
abbrev pub spent : ℕ → Channel → Channel
spent count c = with_power (c.supply - count) (c.awake && nat_lt 0 (c.supply - count)) c

-- An answer to a write or an erase of count bytes comes if the target has the range and the units do not end first.
abbrev pub program_answered : Space → ℕ → ℕ → Channel → Bool
program_answered space start count c = reached space start count c && nat_le count c.supply

-- The landing rule of each memory: EEPROM always replaces.
abbrev pub rule_of : Space → Channel → ℕ → ℕ → ℕ
rule_of Flash c = c.rule
rule_of Eeprom c = replacing

-- With a block programmed by the rule f from the lowest address upward, as much of it as there are units for.
abbrev pub programmed : (ℕ → ℕ → ℕ) → Space → ℕ → List ℕ → Channel → Channel
programmed f space start vs c = with_memory space (landed f start (take c.supply vs) (memory space c)) c

-- After a write: where the target has the range, the values are programmed, each for one unit.
abbrev pub written : Space → ℕ → List ℕ → Channel → Channel
written space start vs c =
    if reached space start (length vs) c then spent (length vs) (programmed (rule_of space c) space start vs c)
    else c

-- After an erase: where the target has the range of flash, it is set to FF, each byte for one unit.
abbrev pub erased : ℕ → ℕ → Channel → Channel
erased start count c = if reached Flash start count c then spent count (programmed replacing Flash start (blank count) c) else c
