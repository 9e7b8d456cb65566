-- What noise does to one byte or two. Assumes nothing.
use Rattle.std.specs.Prelude.{◌≡◌, ℕ, ◌+◌, List, length, ◌≢◌, slice_index}

-- ys is xs with one byte, or two neighbouring bytes, altered: as long as xs, the same everywhere but at one place and
-- perhaps at the next, and not the same there.
pub record Altered (xs ys : List ℕ) : Type 0 where
  pub as_long : length xs ≡ length ys
  pub place : ℕ
  pub elsewhere : (k : ℕ) → k ≢ place → k ≢ place + 1 → slice_index xs k ≡ slice_index ys k
  pub unlike : xs ≢ ys
