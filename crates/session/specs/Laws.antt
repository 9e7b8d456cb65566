-- What a frame can and cannot alter, whatever it says. Assumes nothing.
use Rattle.std.specs.Prelude.{◌≡◌, ℕ, ◌<◌, Bool, true, ◌||◌, ◌⊎◌, List, length, Some, None, Option, ◌==◌, ◌≢◌}
use Rattle.std.specs.Option.{option_map}
use Rattle.bank.specs.Channels.{Channel, ask}
use Rattle.bank.specs.Effects.{put_to_sleep}
use Rattle.session.specs.declared.session.Session.{Session}
use Rattle.session.specs.Doing.{facts_at}

-- A session fits a bank: the selected channel is in it, and a target that it is connected to is of the session's mode.
pub record Fitting (s : Session) (cs : List Channel) : Type 0 where
  pub inside : s.channel < length cs
  pub same_mode : s.connected ≡ true → option_map (λ f. f.mode) (facts_at cs s.channel) ≡ Some s.mode

-- The ACKs that say that a frame was not acted on: 02, 03, 08 and 09.
abbrev pub refuses : ℕ → Bool
refuses code = code == 0x02 || (code == 0x03 || (code == 0x08 || code == 0x09))

-- The channel with this number, if there is one.
abbrev pub channel_at : List Channel → ℕ → Option Channel
channel_at cs i = ask None Some cs i

-- From session and channels before a frame with this command byte, which drew this ACK, to those after it.
pub record Lawful (command code : ℕ) (s : Session) (cs : List Channel) (s' : Session) (cs' : List Channel) : Type 0 where
  -- a refused frame alters nothing
  pub refused : refuses code ≡ true → (s' ≡ s) × (cs' ≡ cs)
  -- a session that fits the bank still does
  pub fits : Fitting s cs → Fitting s' cs'
  -- a channel that is not selected stays as it is, save that 34 may put it to sleep
  pub others : (i : ℕ) → (i ≢ s'.channel) →
      (channel_at cs' i ≡ channel_at cs i) ⊎ ((command ≡ 0x34) × (channel_at cs' i ≡ option_map put_to_sleep (channel_at cs i)))
