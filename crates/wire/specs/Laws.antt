-- What the formats promise of any bytes. Assumes nothing.
use Rattle.std.specs.Prelude.{◌≡◌, ℕ, ◌<◌, List, Some, Ok, Err, slice_index}
use Rattle.crc16.specs.Altered.{Altered}
use Rattle.wire.specs.declared.refusal.Refusal.TheVariants.{WrongCrc}
use Rattle.wire.specs.Fields.{ReplyFields, Fields, Fit}
use Rattle.wire.specs.Frames.{command_frame, reply_frame}
use Rattle.wire.specs.Reading.{damaged, command_in, intact, number_at, unpacked}

-- The ACK fits its place too.
pub record FitReply (a : ReplyFields) : Type 0 where
  pub fields : Fit a.fields
  pub ack : a.ack < 256

-- bs is `sent` altered by noise in one byte or in two neighbouring ones, anywhere, the CRC included, but not in START, the
-- first byte, or PARAM_LEN, the fifth.
pub record Noisy (sent bs : List ℕ) : Type 0 where
  pub altered : Altered sent bs
  pub start : slice_index bs 0 ≡ slice_index sent 0
  pub len : slice_index bs 4 ≡ slice_index sent 4

-- Of bytes that reach the PC: the bytes of a reply unpack to exactly that reply; nothing but the bytes of a reply
-- unpacks; a noisy reply is refused for its CRC.
pub record Replies (bs : List ℕ) : Type 0 where
  pub exactly : (a : ReplyFields) → FitReply a → bs ≡ reply_frame a → unpacked bs ≡ Ok a
  pub only : (a : ReplyFields) → unpacked bs ≡ Ok a → (bs ≡ reply_frame a) × FitReply a
  pub noise : (a : ReplyFields) → FitReply a → Noisy (reply_frame a) bs → unpacked bs ≡ Err WrongCrc

-- Of bytes that reach the interface: the bytes of a command are read as exactly that command; nothing but the bytes of a
-- command is read as one; a noisy command has a wrong CRC and is read as damaged.
pub record Commands (bs : List ℕ) : Type 0 where
  pub exactly : (f : Fields) → Fit f → bs ≡ command_frame f → command_in bs ≡ Some (intact f)
  pub only : (f : Fields) → command_in bs ≡ Some (intact f) → (bs ≡ command_frame f) × Fit f
  pub noise : (f : Fields) → Fit f → Noisy (command_frame f) bs → command_in bs ≡ Some (damaged (slice_index bs 1) (number_at bs 2))
