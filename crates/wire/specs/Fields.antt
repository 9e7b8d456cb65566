-- What a frame carries, as plain values. Assumes nothing.
use Rattle.std.specs.Prelude.{ℕ, ◌<◌, ◌≤◌, List, length}
use Rattle.byte_rows.specs.Bytes.{Bytes}
use Rattle.wire.specs.declared.message.Message.{Message}
use Rattle.wire.specs.declared.message.Reply.{Reply}

-- What a command and a reply have in common.
pub record Fields : Type 0 where
  pub command : ℕ
  pub address : ℕ
  pub param : List ℕ

-- What a reply carries: it has an ACK besides.
pub record ReplyFields : Type 0 where
  pub fields : Fields
  pub ack : ℕ

-- The fields of the code's `Message`.
abbrev pub fields_of : Message → Fields
fields_of m = record { command = m.command; address = m.address; param = m.param.now }

-- The fields of the code's `Reply`.
abbrev pub reply_fields_of : Reply → ReplyFields
reply_fields_of r = record { fields = fields_of r.message; ack = r.ack }

-- The parameter has 1 to 256 bytes.
pub record CountFits (param : List ℕ) : Type 0 where
  pub some : 1 ≤ length param
  pub few : length param ≤ 256

-- Each field fits its place in a frame.
pub record Fit (f : Fields) : Type 0 where
  pub command : f.command < 256
  pub address : f.address < 65536
  pub bytes : Bytes f.param
  pub counted : CountFits f.param
