-- What comes of a command: an answer, and session and channels after. Assumes nothing.
use Rattle.std.specs.Prelude.{ℕ, Bool, if◌then◌else◌, List, [], ◌∷◌, ◌++◌, take, Ok, Err, codes, Result, ◌==◌}
use Rattle.bank.specs.Channels.{Channel}
use Rattle.bank.specs.Modes.{mode_number}
use Rattle.wire.specs.Frames.{param_count}
use Rattle.wire.specs.declared.ack.Ack.{Ack}
use Rattle.wire.specs.declared.ack.Ack.TheVariants as ack
use Rattle.session.specs.declared.answer.Answer.{Answer}
use Rattle.session.specs.declared.answer.Answer.TheVariants.{Done, ProtocolVersion, InterfaceName, InterfaceVersion, Channel as ChannelNumber, Page, InMode, Target, Bytes}
use Rattle.session.specs.declared.session.Session.{Session}

-- ---- parameters of replies

-- Of a command that has nothing to tell.
abbrev pub nothing : List ℕ
nothing = 0x00 ∷ []

-- The version of the protocol.
abbrev pub protocol_version : List ℕ
protocol_version = 0x6A ∷ []

-- The version of the interface.
abbrev pub interface_version : List ℕ
interface_version = 0x14 ∷ 0x01 ∷ []

-- The name of an interface with so many channels.
abbrev pub name_of : ℕ → List ℕ
name_of count = if count == 1 then codes "BX4" else codes "mBX4"

-- How many bytes a count byte asks for: 01 to FF count themselves, and 00 means 256, as in PARAM_LEN.
abbrev pub bytes_asked : ℕ → ℕ
bytes_asked len = param_count len

-- ---- outcomes

-- The answer is the parameter that comes with ACK 00, or another ACK. With it come session and channels as they are afterwards.
pub record Outcome : Type 0 where
  pub answer : Result (List ℕ) Ack
  pub session : Session
  pub channels : List Channel

-- ACK 00 with a parameter where the bank answered, and otherwise 0F.
abbrev pub answered_by : Bool → List ℕ → Result (List ℕ) Ack
answered_by came param = if came then Ok param else Err ack.GeneralError

-- A refusal alters nothing.
abbrev pub refused : Ack → Session → List Channel → Outcome
refused a s cs = record { answer = Err a; session = s; channels = cs }

-- One place in a table of checks: what has to hold, and the ACK where it does not.
pub record Check : Type 0 where
  pub holds : Bool
  pub otherwise : Ack

-- The first check that does not hold refuses; where all hold, it is done.
abbrev pub judged : List Check → Outcome → Session → List Channel → Outcome
judged [] done s cs = done
judged (check ∷ rest) done s cs = if check.holds then judged rest done s cs else refused check.otherwise s cs

-- The parameter that stands for an answer. Bytes that were read stand at the front of a buffer.
abbrev pub answer_bytes : Answer → List ℕ → List ℕ
answer_bytes Done buffer = nothing
answer_bytes ProtocolVersion buffer = protocol_version
answer_bytes (InterfaceName count) buffer = name_of count
answer_bytes InterfaceVersion buffer = interface_version
answer_bytes (ChannelNumber i) buffer = i ∷ []
answer_bytes (Page page) buffer = page ∷ []
answer_bytes (InMode mode) buffer = mode_number mode ∷ []
answer_bytes (Target identity mode) buffer = identity ++ mode_number mode ∷ []
answer_bytes (Bytes len) buffer = take (bytes_asked len) buffer

-- The answer that the code's result stands for.
abbrev pub told : Result Answer Ack → List ℕ → Result (List ℕ) Ack
told (Ok answer) buffer = Ok (answer_bytes answer buffer)
told (Err a) buffer = Err a
