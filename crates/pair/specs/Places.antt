-- Which bank of a pair answers for a channel. Assumes nothing.
use Rattle.std.specs.Prelude.{ℕ, ◌-◌, if◌then◌else◌, List, ◌++◌, take, Some, None, Option, nat_le, nat_lt}
use Rattle.bank.specs.Channels.{Channel, max_channels}
use Rattle.pair.specs.declared.place.Place.{Place}
use Rattle.pair.specs.declared.place.Place.TheVariants.{First, Second}

-- The channels of a pair: the first's, then the second's, cut after the eighth.
abbrev pub paired : List Channel → List Channel → List Channel
paired xs ys = take max_channels (xs ++ ys)

-- Which bank answers for the channel with this number, and under which number of its own, when the first bank has so many channels; none
-- past the eighth.
abbrev pub placed : ℕ → ℕ → Option Place
placed firsts channel =
    if nat_le max_channels channel then None else if nat_lt channel firsts then Some (First channel) else Some (Second (channel - firsts))
