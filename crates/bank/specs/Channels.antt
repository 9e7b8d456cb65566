-- What a bank means: a list of channels. Assumes nothing.
use Rattle.std.specs.Prelude.{◌≡◌, ℕ, zero, suc, ◌^◌, ◌<◌, ◌≤◌, Bool, true, false, List, [], ◌∷◌, length}
use Rattle.byte_rows.specs.Bytes.{Bytes}
use Rattle.flash.specs.Rules.{Idempotent, OnBlank, OnBytes}
use Rattle.bank.specs.Facts.{TargetFacts, fits}

-- One target: its facts, the landing rule of its flash, and its state.
pub record Channel : Type 0 where
  pub facts : TargetFacts
  -- what a flash byte holds after a value was programmed over what it held
  pub rule : ℕ → ℕ → ℕ
  -- the bytes of its two memories
  pub flash : List ℕ
  pub eeprom : List ℕ
  -- how many bytes it can still program before its power fails
  pub supply : ℕ
  -- only then does it read, write and erase
  pub awake : Bool

-- The most channels that a bank has.
abbrev pub max_channels : ℕ
max_channels = 8

-- What f says of the channel with this number, or d where the list has no such channel.
abbrev pub ask : {A : Type 0} → A → (Channel → A) → List Channel → ℕ → A
ask d f [] i = d
ask d f (c ∷ cs) zero = f c
ask d f (c ∷ cs) (suc i) = ask d f cs i

-- The list with h done to the channel of this number. All other channels are as they were, and so is a list that has no such channel.
abbrev pub alter : (Channel → Channel) → List Channel → ℕ → List Channel
alter h [] i = []
alter h (c ∷ cs) zero = h c ∷ cs
alter h (c ∷ cs) (suc i) = c ∷ alter h cs i

-- A channel as every target is at every moment of its life.
pub record Sound (c : Channel) : Type 0 where
  pub sizes : fits c.facts ≡ true
  pub identity_length : length c.facts.identity ≡ 3
  pub identity : Bytes c.facts.identity
  pub flash_length : length c.flash ≡ c.facts.flash_size
  pub eeprom_length : length c.eeprom ≡ c.facts.eeprom_size
  pub flash : Bytes c.flash
  pub eeprom : Bytes c.eeprom
  pub onbytes : OnBytes c.rule
  pub onblank : OnBlank c.rule
  pub idempotent : Idempotent c.rule
  pub supply : c.supply < 2 ^ 32
  pub asleep : c.supply ≡ 0 → c.awake ≡ false

-- Every channel of the list is sound.
abbrev pub AllSound : List Channel → Type 0
AllSound [] = Unit {0}
AllSound (c ∷ cs) = Sound c × AllSound cs

-- A bank has 1 to 8 channels, all of them sound.
pub record SoundBank (cs : List Channel) : Type 0 where
  pub not_empty : 1 ≤ length cs
  pub at_most : length cs ≤ max_channels
  pub all : AllSound cs
