-- Landing rules: what a flash byte holds after a value was programmed over what it held before. Assumes nothing.
use Rattle.std.specs.Prelude.{◌≡◌, ℕ, ◌<◌, bit_and}

-- Clearing: programming turns ones into zeros and never zeros into ones, so the byte holds old AND value, bit by bit.
abbrev pub clearing : ℕ → ℕ → ℕ
clearing o v = bit_and o v

-- Replacing: the byte holds the value, whatever it held before.
abbrev pub replacing : ℕ → ℕ → ℕ
replacing o v = v

-- A rule is a function on bytes: a byte landing on a byte leaves a byte.
abbrev pub OnBytes : (ℕ → ℕ → ℕ) → Type 0
OnBytes f = (o v : ℕ) → o < 256 → v < 256 → f o v < 256

-- The first law: a value landing on FF gives the value.
abbrev pub OnBlank : (ℕ → ℕ → ℕ) → Type 0
OnBlank f = (v : ℕ) → v < 256 → f 255 v ≡ v

-- The second law: the same value landing twice gives what it gave the first time.
abbrev pub Idempotent : (ℕ → ℕ → ℕ) → Type 0
Idempotent f = (o v : ℕ) → o < 256 → v < 256 → f (f o v) v ≡ f o v
