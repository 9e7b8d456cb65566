-- The numbers that stand for an acknowledgement on the wire and for a refusal, and both as text. Assumes nothing.
use Rattle.std.specs.Prelude.{ℕ, List, [], ◌∷◌, ◌++◌, Option, Result, ◌==◌, codes, decimal, find, ok_or}
use Rattle.wire.specs.declared.ack.Ack.{Ack}
use Rattle.wire.specs.declared.ack.Ack.TheVariants as ack
use Rattle.wire.specs.declared.ack.UnknownAck.{UnknownAck}
use Rattle.wire.specs.declared.refusal.Refusal.{Refusal}
use Rattle.wire.specs.declared.refusal.Refusal.TheVariants.{ReplyWaiting, NoReply, ShortBuffer, NoChannel, ParamCount, NotAReply, WrongCrc}

-- The ACK byte of each acknowledgement.
abbrev pub ack_code : Ack → ℕ
ack_code ack.Ok = 0x00
ack_code ack.InvalidCommand = 0x02
ack_code ack.InvalidCrc = 0x03
ack_code ack.InvalidChannel = 0x08
ack_code ack.InvalidParam = 0x09
ack_code ack.GeneralError = 0x0F

-- The acknowledgement that has the code, if any.
abbrev pub ack_of : ℕ → Option Ack
ack_of code =
    find (λ a. ack_code a == code) (ack.Ok ∷ ack.InvalidCommand ∷ ack.InvalidCrc ∷ ack.InvalidChannel ∷ ack.InvalidParam ∷ ack.GeneralError ∷ [])

-- The acknowledgement that has the code, or the code as an error.
abbrev pub ack_decoded : ℕ → Result Ack UnknownAck
ack_decoded code = ok_or (ack_of code) (record { 0 = code })

-- The name of an acknowledgement.
abbrev pub ack_name : Ack → List ℕ
ack_name ack.Ok = codes "ok"
ack_name ack.InvalidCommand = codes "invalid command"
ack_name ack.InvalidCrc = codes "invalid CRC"
ack_name ack.InvalidChannel = codes "invalid channel"
ack_name ack.InvalidParam = codes "invalid parameter"
ack_name ack.GeneralError = codes "general error"

-- The number of a refusal.
abbrev pub refusal_number : Refusal → ℕ
refusal_number ReplyWaiting = 21
refusal_number NoReply = 22
refusal_number ShortBuffer = 23
refusal_number NoChannel = 24
refusal_number ParamCount = 25
refusal_number NotAReply = 26
refusal_number WrongCrc = 27

-- A refusal as it is answered.
abbrev pub refusal_text : Refusal → List ℕ
refusal_text r = codes "!" ++ decimal (refusal_number r)
