-- Rows of bytes. Assumes nothing.
use Rattle.std.specs.Prelude.{ℕ, ◌<◌, List, slice_index}

-- Every element is a byte.
abbrev pub Bytes : List ℕ → Type 0
Bytes xs = (k : ℕ) → slice_index xs k < 256
