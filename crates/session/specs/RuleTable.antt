-- The rule table of a frame, and what executing one comes to. Assumes nothing.
use Rattle.std.specs.Prelude.{ℕ, ◌*◌, Bool, true, false, List, [], ◌∷◌, length, is_some, Some, None, Ok, Err, Option, Result, nat_lt}
use Rattle.std.specs.Option.{option_map}
use Rattle.bank.specs.declared.space.Space.{Space}
use Rattle.bank.specs.Channels.{Channel}
use Rattle.bank.specs.Effects.{inside}
use Rattle.bank.specs.Facts.{TargetFacts, facts_of, size_of}
use Rattle.bank.specs.declared.facts.Facts.{Facts}
use Rattle.commands.specs.Commands.{made_by, valid}
use Rattle.commands.specs.declared.command.Command.{Command}
use Rattle.commands.specs.declared.command.Command.TheVariants.{TestAlive, ProtocolVersion, InterfaceName, InterfaceVersion, Exit, SetMode, Reset, InitFlash, EraseAll, ErasePage, Read, Write}
use Rattle.wire.specs.Codes.{ack_code}
use Rattle.wire.specs.Fields.{Fields, ReplyFields}
use Rattle.wire.specs.Frames.{reply_frame}
use Rattle.wire.specs.Reading.{FrameRead, command_in, damaged, intact}
use Rattle.wire.specs.declared.ack.Ack.{Ack}
use Rattle.wire.specs.declared.ack.Ack.TheVariants as ack
use Rattle.session.specs.declared.session.Session.{Session}
use Rattle.session.specs.Doing.{doing, facts_at, start_of}
use Rattle.session.specs.Outcomes.{Check, Outcome, bytes_asked, judged, refused}

-- ---- what the checks look at

-- The channel that a command names is in a bank of so many channels. A command that names none has nothing to fail.
abbrev pub channel_there : Command → ℕ → Bool
channel_there TestAlive count = true
channel_there ProtocolVersion count = true
channel_there InterfaceName count = true
channel_there InterfaceVersion count = true
channel_there Exit count = true
channel_there (SetMode mode) count = true
channel_there (Reset i) count = nat_lt i count
channel_there (InitFlash i) count = nat_lt i count
channel_there EraseAll count = true
channel_there (ErasePage page) count = true
channel_there (Read space len) count = true
channel_there (Write space) count = true

-- A command that works on a memory has a connected target.
abbrev pub connection_there : Command → Session → Bool
connection_there TestAlive s = true
connection_there ProtocolVersion s = true
connection_there InterfaceName s = true
connection_there InterfaceVersion s = true
connection_there Exit s = true
connection_there (SetMode mode) s = true
connection_there (Reset i) s = true
connection_there (InitFlash i) s = true
connection_there EraseAll s = s.connected
connection_there (ErasePage page) s = s.connected
connection_there (Read space len) s = s.connected
connection_there (Write space) s = s.connected

-- The target with these facts has the page.
abbrev pub has_page : ℕ → Option TargetFacts → Bool
has_page page None = false
has_page page (Some f) = inside f.flash_size (page * f.page_size) f.page_size

-- The target with these facts has the range.
abbrev pub has_range : Space → ℕ → ℕ → Option TargetFacts → Bool
has_range space from count None = false
has_range space from count (Some f) = inside (size_of space f) from count

-- The page or the range that a command works on is inside the memory of the target with these facts. Erasing all only needs a target.
abbrev pub range_there : Command → ℕ → List ℕ → Session → Option TargetFacts → Bool
range_there TestAlive address param s target = true
range_there ProtocolVersion address param s target = true
range_there InterfaceName address param s target = true
range_there InterfaceVersion address param s target = true
range_there Exit address param s target = true
range_there (SetMode mode) address param s target = true
range_there (Reset i) address param s target = true
range_there (InitFlash i) address param s target = true
range_there EraseAll address param s target = is_some target
range_there (ErasePage page) address param s target = has_page page target
range_there (Read space len) address param s target = has_range space (start_of address s) (bytes_asked len) target
range_there (Write space) address param s target = has_range space (start_of address s) (length param) target

-- The code's facts, or the ACK in their place, as a plain record.
abbrev pub facts_result : Result Facts Ack → Result TargetFacts Ack
facts_result (Ok f) = Ok (facts_of f)
facts_result (Err a) = Err a

-- ---- the table

-- There is something, and it passes the test.
abbrev pub some_and : {A : Type 0} → (A → Bool) → Option A → Bool
some_and test None = false
some_and test (Some a) = test a

-- A frame's CRC is right.
abbrev pub crc_holds : FrameRead → Bool
crc_holds (intact f) = true
crc_holds (damaged code address) = false

-- The fields of a frame; of a damaged one only COMMAND and ADDRESS count.
abbrev pub fields_of_frame : FrameRead → Fields
fields_of_frame (intact f) = f
fields_of_frame (damaged code address) = record { command = code; address = address; param = [] }

-- What a command does, if there is one.
abbrev pub doing_if : Option Command → ℕ → List ℕ → Session → List Channel → Outcome
doing_if None address param s cs = refused ack.InvalidParam s cs
doing_if (Some command) address param s cs = doing command address param s cs

-- The checks of a whole frame, in their order.
abbrev pub checks_of : FrameRead → Session → List Channel → List Check
checks_of read s cs =
    let f = fields_of_frame read in
    let command = made_by f.command f.param in
    let target = facts_at cs s.channel in
    record { holds = crc_holds read; otherwise = ack.InvalidCrc }
    ∷ record { holds = valid f.command s.mode; otherwise = ack.InvalidCommand }
    ∷ record { holds = is_some command; otherwise = ack.InvalidParam }
    ∷ record { holds = some_and (λ k. channel_there k (length cs)) command; otherwise = ack.InvalidChannel }
    ∷ record { holds = some_and (λ k. connection_there k s) command; otherwise = ack.GeneralError }
    ∷ record { holds = some_and (λ k. range_there k f.address f.param s target) command; otherwise = ack.InvalidParam }
    ∷ []

-- The checks of a whole frame, and what is done where all of them pass. The last place is in what is done: 30 on a sleeper, 37 in
-- another mode and no answer from the bank draw 0F.
abbrev pub rule_table : FrameRead → Session → List Channel → Outcome
rule_table read s cs =
    let f = fields_of_frame read in
    judged (checks_of read s cs) (doing_if (made_by f.command f.param) f.address f.param s cs) s cs

-- The table from its fourth place on, of a command that was decoded.
abbrev pub performed : Command → ℕ → List ℕ → Session → List Channel → Outcome
performed command address param s cs =
    judged (
    record { holds = channel_there command (length cs); otherwise = ack.InvalidChannel }
    ∷ record { holds = connection_there command s; otherwise = ack.GeneralError }
    ∷ record { holds = range_there command address param s (facts_at cs s.channel); otherwise = ack.InvalidParam }
    ∷ []
    )
    (doing command address param s cs) s cs

-- ---- bytes in, bytes out

-- The reply to a frame: COMMAND and ADDRESS as they were sent, then the parameter and ACK 00, or the one byte 00 and another ACK.
abbrev pub reply_fields : Fields → Result (List ℕ) Ack → ReplyFields
reply_fields f (Ok param) = record { fields = record { command = f.command; address = f.address; param = param }; ack = ack_code ack.Ok }
reply_fields f (Err a) = record { fields = record { command = f.command; address = f.address; param = 0x00 ∷ [] }; ack = ack_code a }

-- What comes of bytes: the bytes of a reply, and session and channels after.
pub record Executed : Type 0 where
  pub reply : List ℕ
  pub session : Session
  pub channels : List Channel

-- What comes of a whole frame.
abbrev pub executing : FrameRead → Session → List Channel → Executed
executing read s cs =
    let o = rule_table read s cs in
    record { reply = reply_frame (reply_fields (fields_of_frame read) o.answer); session = o.session; channels = o.channels }

-- What comes of any bytes: those that are no whole command frame get no reply and alter nothing.
abbrev pub executed : List ℕ → Session → List Channel → Option Executed
executed bytes s cs = option_map (λ read. executing read s cs) (command_in bytes)
