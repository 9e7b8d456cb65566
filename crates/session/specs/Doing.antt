-- What each command does once all checks before the last have passed. Assumes nothing.
use Rattle.std.specs.Prelude.{ℕ, ◌+◌, ◌*◌, Bool, true, false, if◌then◌else◌, not, ◌&&◌, ◌||◌, List, [], ◌∷◌, ◌++◌, map, length, take, drop, Some, None, Ok, Option, ◌==◌, unwrap_or}
use Rattle.bank.specs.declared.mode.Mode.{Mode}
use Rattle.bank.specs.declared.mode.Mode.TheVariants.{SiC2, SiLBLB, AtmBLB, AtmSK}
use Rattle.bank.specs.declared.space.Space.{Space}
use Rattle.bank.specs.declared.space.Space.TheVariants.{Flash}
use Rattle.bank.specs.Channels.{Channel, alter, ask}
use Rattle.bank.specs.Effects.{entered, erased, memory, powered, program_answered, put_to_sleep, reached, written}
use Rattle.bank.specs.Facts.{TargetFacts}
use Rattle.bank.specs.Modes.{mode_number}
use Rattle.commands.specs.declared.command.Command.{Command}
use Rattle.commands.specs.declared.command.Command.TheVariants.{TestAlive, ProtocolVersion, InterfaceName, InterfaceVersion, Exit, SetMode, Reset, InitFlash, EraseAll, ErasePage, Read, Write}
use Rattle.wire.specs.declared.ack.Ack.TheVariants as ack
use Rattle.session.specs.declared.session.Session.{Session}
use Rattle.session.specs.Outcomes.{Outcome, answered_by, bytes_asked, interface_version, name_of, nothing, protocol_version, refused}
use Rattle.session.specs.Sessions.{connecting, in_mode, moved_to, selecting, start}

-- ---- what is asked of a channel

-- The facts of the channel with this number, if there is one.
abbrev pub facts_at : List Channel → ℕ → Option TargetFacts
facts_at cs i = ask None (λ c. Some c.facts) cs i

-- One of the sizes of a target; 0 where there is none.
abbrev pub size_in : (TargetFacts → ℕ) → Option TargetFacts → ℕ
size_in size None = 0
size_in size (Some f) = size f

-- Mode 0.
abbrev pub is_sic2 : Mode → Bool
is_sic2 SiC2 = true
is_sic2 SiLBLB = false
is_sic2 AtmBLB = false
is_sic2 AtmSK = false

-- Where a read or a write begins: at the address, or, for FFFF in modes 1 to 3, at the cursor.
abbrev pub start_of : ℕ → Session → ℕ
start_of address s = if address == 0xFFFF && not (is_sic2 s.mode) then s.cursor else address

-- ---- the commands

-- 30: fails only when connected to a target that is asleep.
abbrev pub alive_tested : Session → List Channel → Outcome
alive_tested s cs =
    let awake = unwrap_or (ask None (λ c. Some c.awake) cs s.channel) false in
    record { answer = answered_by (not s.connected || awake) nothing; session = s; channels = cs }

-- 31, 32, 33: tell something, and alter nothing.
abbrev pub saying : List ℕ → Session → List Channel → Outcome
saying param s cs = record { answer = Ok param; session = s; channels = cs }

-- 34: in mode 0 every target that has supply is put to sleep; then the session restarts.
abbrev pub exited : Session → List Channel → Outcome
exited s cs = record { answer = Ok nothing; session = start; channels = if is_sic2 s.mode then map put_to_sleep cs else cs }

-- 3F: sets the mode, ends the connection and replies the mode.
abbrev pub mode_set : Mode → Session → List Channel → Outcome
mode_set mode s cs = record { answer = Ok (mode_number mode ∷ []); session = in_mode mode s; channels = cs }

-- 35 and 3C: select the channel, end the connection, put the target to sleep and reply the channel.
abbrev pub reset : ℕ → Session → List Channel → Outcome
reset i s cs = record {
  answer = answered_by (ask false powered cs i) (i ∷ []);
  session = selecting i s;
  channels = alter put_to_sleep cs i;
}

-- A connection to the target of the selected channel, which has these facts: if its mode is the session's and then enter is answered, the
-- session is connected, the cursor is 0, and identity and mode are replied.
abbrev pub connected_to : TargetFacts → Session → List Channel → Outcome
connected_to f s cs =
    if mode_number f.mode == mode_number s.mode then record {
      answer = answered_by (ask false powered cs s.channel) (f.identity ++ mode_number f.mode ∷ []);
      session = if ask false powered cs s.channel then connecting s else s;
      channels = alter entered cs s.channel;
    } else refused ack.GeneralError s cs

-- 37: selects the channel, ends the connection, and connects to the target with these facts.
abbrev pub initialised : ℕ → Option TargetFacts → Session → List Channel → Outcome
initialised i None s cs = refused ack.GeneralError (selecting i s) cs
initialised i (Some f) s cs = connected_to f (selecting i s) cs

-- 38 and 39: erase count bytes of flash from an address upward.
abbrev pub wiped : ℕ → ℕ → List ℕ → Session → List Channel → Outcome
wiped from count reply s cs = record {
  answer = answered_by (ask false (program_answered Flash from count) cs s.channel) reply;
  session = s;
  channels = alter (erased from count) cs s.channel;
}

-- The bytes of a range of a memory.
abbrev pub bytes_at : Space → ℕ → ℕ → Channel → List ℕ
bytes_at space from count c = take count (drop from (memory space c))

-- 3A and 3D: reply count bytes of a memory from an address upward. The cursor is then behind the last one.
abbrev pub fetched : Space → ℕ → ℕ → Session → List Channel → Outcome
fetched space from count s cs =
    let there = ask false (reached space from count) cs s.channel in
    record {
      answer = answered_by there (ask [] (bytes_at space from count) cs s.channel);
      session = if there then moved_to (from + count) s else s;
      channels = cs;
    }

-- 3B and 3E: write values into a memory from an address upward. The cursor is then behind the last one, unless the write failed.
abbrev pub stored : Space → ℕ → List ℕ → Session → List Channel → Outcome
stored space from values s cs =
    let done = ask false (program_answered space from (length values)) cs s.channel in
    record {
      answer = answered_by done nothing;
      session = if done then moved_to (from + length values) s else s;
      channels = alter (written space from values) cs s.channel;
    }

-- What a command does, with the address and the parameter of its frame.
abbrev pub doing : Command → ℕ → List ℕ → Session → List Channel → Outcome
doing TestAlive address param s cs = alive_tested s cs
doing ProtocolVersion address param s cs = saying protocol_version s cs
doing InterfaceName address param s cs = saying (name_of (length cs)) s cs
doing InterfaceVersion address param s cs = saying interface_version s cs
doing Exit address param s cs = exited s cs
doing (SetMode mode) address param s cs = mode_set mode s cs
doing (Reset i) address param s cs = reset i s cs
doing (InitFlash i) address param s cs = initialised i (facts_at cs i) s cs
doing EraseAll address param s cs = wiped 0 (size_in (λ f. f.flash_size) (facts_at cs s.channel)) nothing s cs
doing (ErasePage page) address param s cs =
    let size = size_in (λ f. f.page_size) (facts_at cs s.channel) in
    wiped (page * size) size (page ∷ []) s cs
doing (Read space len) address param s cs = fetched space (start_of address s) (bytes_asked len) s cs
doing (Write space) address param s cs = stored space (start_of address s) param s cs
