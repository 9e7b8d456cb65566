-- What the session remembers, and how it changes. Assumes nothing.
use Rattle.std.specs.Prelude.{ℕ, true, false}
use Rattle.bank.specs.declared.mode.Mode.{Mode}
use Rattle.bank.specs.declared.mode.Mode.TheVariants.{SiC2}
use Rattle.session.specs.declared.session.Session.{Session}

-- As it is at the start: channel 0 selected, mode 0, cursor 0, not connected.
abbrev pub start : Session
start = record { channel = 0; mode = SiC2; cursor = 0; connected = false }

-- With another channel selected, which ends the connection.
abbrev pub selecting : ℕ → Session → Session
selecting i s = record { channel = i; mode = s.mode; cursor = s.cursor; connected = false }

-- Connected to the target of the selected channel, with the cursor at 0.
abbrev pub connecting : Session → Session
connecting s = record { channel = s.channel; mode = s.mode; cursor = 0; connected = true }

-- With the cursor somewhere else.
abbrev pub moved_to : ℕ → Session → Session
moved_to cursor s = record { channel = s.channel; mode = s.mode; cursor = cursor; connected = s.connected }

-- In another mode, which ends the connection.
abbrev pub in_mode : Mode → Session → Session
in_mode mode s = record { channel = s.channel; mode = mode; cursor = s.cursor; connected = false }
