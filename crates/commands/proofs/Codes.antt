-- A command is made by its own byte alone. Assumes nothing.
use Rattle.std.proofs.Common.{◌≡◌, ℕ, Bool, true, cond, ◌||◌, eqb, List, Some, None, Option}
use Rattle.std.proofs.lemmas.Bool.{cond_both, or_left, or_right}
use Rattle.std.specs.Option.{option_map}
use Rattle.bank.specs.declared.space.Space.TheVariants.{Flash, Eeprom}
use Rattle.commands.specs.Commands.{made_by}
use Rattle.commands.specs.declared.command.Command.{Command}
use Rattle.commands.specs.declared.command.Command.TheVariants.{TestAlive, ProtocolVersion, InterfaceName, InterfaceVersion, Exit, SetMode, Reset, InitFlash, EraseAll, ErasePage, Read, Write}

-- the byte is one that stands for the command
abbrev pub stands_for : ℕ → Command → Bool
stands_for code TestAlive = eqb code 0x30
stands_for code ProtocolVersion = eqb code 0x31
stands_for code InterfaceName = eqb code 0x32
stands_for code InterfaceVersion = eqb code 0x33
stands_for code Exit = eqb code 0x34
stands_for code (SetMode mode) = eqb code 0x3F
stands_for code (Reset i) = eqb code 0x35 || eqb code 0x3C
stands_for code (InitFlash i) = eqb code 0x37
stands_for code EraseAll = eqb code 0x38
stands_for code (ErasePage page) = eqb code 0x39
stands_for code (Read Flash len) = eqb code 0x3A
stands_for code (Read Eeprom len) = eqb code 0x3D
stands_for code (Write Flash) = eqb code 0x3B
stands_for code (Write Eeprom) = eqb code 0x3E

-- the command, if there is one, is one that the byte stands for
abbrev pub Coded : ℕ → Option Command → Type 0
Coded code None = Unit {0}
Coded code (Some command) = stands_for code command ≡ true

-- a command that is made where something holds
when : (code : ℕ) (b : Bool) (command : Command) → stands_for code command ≡ true → Coded code (cond b (Some command) None)
when code b command e = cond_both b (Some command) None (Coded code) (λ _. e) (λ _. tt)

-- a command that is made of what a parameter says
mapped : {A : Type 0} (code : ℕ) (make : A → Command) (o : Option A) → ((a : A) → stands_for code (make a) ≡ true) → Coded code (option_map make o)
mapped code make None e = tt
mapped code make (Some a) e = e a

-- one place of the table
at : (code byte : ℕ) (x y : Option Command) → (eqb code byte ≡ true → Coded code x) → Coded code y → Coded code (cond (eqb code byte) x y)
at code byte x y here rest = cond_both (eqb code byte) x y (Coded code) here (λ _. rest)

pub made_coded : (code : ℕ) (param : List ℕ) → Coded code (made_by code param)
made_coded code param = search (at, when, mapped, or_left, or_right) depth 40
