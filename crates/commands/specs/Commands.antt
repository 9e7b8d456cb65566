-- Which commands there are, in which modes each is valid, and what parameter each takes. Assumes nothing.
use Rattle.std.specs.Prelude.{ℕ, Bool, true, false, if◌then◌else◌, ◌&&◌, ◌||◌, List, length, Some, None, Ok, Err, Option, Result, ◌==◌, nat_le, slice_index}
use Rattle.std.specs.Option.{option_map}
use Rattle.bank.specs.declared.mode.Mode.{Mode}
use Rattle.bank.specs.declared.mode.Mode.TheVariants.{SiC2, SiLBLB, AtmBLB, AtmSK}
use Rattle.bank.specs.declared.space.Space.TheVariants.{Flash, Eeprom}
use Rattle.bank.specs.Modes.{mode_of}
use Rattle.wire.specs.declared.ack.Ack.{Ack}
use Rattle.wire.specs.declared.ack.Ack.TheVariants as ack
use Rattle.commands.specs.declared.command.Command.{Command}
use Rattle.commands.specs.declared.command.Command.TheVariants.{TestAlive, ProtocolVersion, InterfaceName, InterfaceVersion, Exit, SetMode, Reset, InitFlash, EraseAll, ErasePage, Read, Write}

-- ---- the modes in which a command is valid

-- Where all flash can be erased at once: SiC2 and AtmSK.
abbrev pub erases_all : Mode → Bool
erases_all SiC2 = true
erases_all SiLBLB = false
erases_all AtmBLB = false
erases_all AtmSK = true

-- Where single pages can be erased: SiC2 and SiLBLB.
abbrev pub erases_pages : Mode → Bool
erases_pages SiC2 = true
erases_pages SiLBLB = true
erases_pages AtmBLB = false
erases_pages AtmSK = false

-- Where there is a C2 clock line: SiC2.
abbrev pub has_c2 : Mode → Bool
has_c2 SiC2 = true
has_c2 SiLBLB = false
has_c2 AtmBLB = false
has_c2 AtmSK = false

-- Where there may be EEPROM: AtmBLB and AtmSK.
abbrev pub has_eeprom : Mode → Bool
has_eeprom SiC2 = false
has_eeprom SiLBLB = false
has_eeprom AtmBLB = true
has_eeprom AtmSK = true

-- The byte stands for a command that is valid in the mode: 30 to 3F but for 36, which was removed, and some only in some modes.
abbrev pub valid : ℕ → Mode → Bool
valid code mode =
    if code == 0x36 then false
    else if code == 0x38 then erases_all mode
    else if code == 0x39 then erases_pages mode
    else if code == 0x3C then has_c2 mode
    else if code == 0x3D || code == 0x3E then has_eeprom mode
    else nat_le 0x30 code && nat_le code 0x3F

-- ---- the parameter of each command

-- The byte of a parameter that is one byte.
abbrev pub byte_in : List ℕ → Option ℕ
byte_in param = if length param == 1 then Some (slice_index param 0) else None

-- The channel that a parameter names: one byte, 00 to 07.
abbrev pub channel_in : List ℕ → Option ℕ
channel_in param = if length param == 1 && nat_le (slice_index param 0) 7 then Some (slice_index param 0) else None

-- The mode that a parameter names: one byte, 00 to 03.
abbrev pub mode_in : List ℕ → Option Mode
mode_in param = if length param == 1 then mode_of (slice_index param 0) else None

-- A command that has nothing to tell, if its parameter is the one byte 00.
abbrev pub bare : Command → List ℕ → Option Command
bare command param = if length param == 1 && slice_index param 0 == 0 then Some command else None

-- A command whose parameter is its data, if that is 1 to 256 bytes.
abbrev pub with_data : Command → List ℕ → Option Command
with_data command param = if nat_le 1 (length param) && nat_le (length param) 256 then Some command else None

-- The command that a byte and a parameter make, if the parameter has the count and value that the command takes.
abbrev pub made_by : ℕ → List ℕ → Option Command
made_by code param =
    if code == 0x30 then bare TestAlive param
    else if code == 0x31 then bare ProtocolVersion param
    else if code == 0x32 then bare InterfaceName param
    else if code == 0x33 then bare InterfaceVersion param
    else if code == 0x34 then bare Exit param
    else if code == 0x35 then option_map Reset (channel_in param)
    else if code == 0x37 then option_map InitFlash (channel_in param)
    else if code == 0x38 then bare EraseAll param
    else if code == 0x39 then option_map ErasePage (byte_in param)
    else if code == 0x3A then option_map (Read Flash) (byte_in param)
    else if code == 0x3B then with_data (Write Flash) param
    else if code == 0x3C then option_map Reset (channel_in param)
    else if code == 0x3D then option_map (Read Eeprom) (byte_in param)
    else if code == 0x3E then with_data (Write Eeprom) param
    else if code == 0x3F then option_map SetMode (mode_in param)
    else None

-- What a parameter says, or that it is invalid.
abbrev pub or_invalid_param : {A : Type 0} → Option A → Result A Ack
or_invalid_param None = Err ack.InvalidParam
or_invalid_param (Some a) = Ok a

-- What is made of a command byte and a parameter in a mode: an invalid command is told before an invalid parameter.
abbrev pub decoded : Mode → ℕ → List ℕ → Result Command Ack
decoded mode code param = if valid code mode then or_invalid_param (made_by code param) else Err ack.InvalidCommand
