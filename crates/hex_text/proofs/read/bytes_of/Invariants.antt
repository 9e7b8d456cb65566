use Rattle.std.proofs.Common.{◌≡◌, ◌++◌, vec_items}
use Rattle.std.specs.Option.{option_map}
use Rattle.std.specs.Slice.Iter.{chunks_rest, chunks_size}
use Rattle.hex_text.specs.Hex.{bytes_spelled}
use Rattle.hex_text.proofs.read.bytes_of.Given as goal

-- the bytes so far, before those that the rest spells
abbrev pub invariant-loop-chunk : goal.invariant-loop-chunk
invariant-loop-chunk l =
    (chunks_size l.chunk-iterator ≡ 3) × (option_map (λ bs. vec_items l.bytes ++ bs) (bytes_spelled (chunks_rest l.chunk-iterator)) ≡ bytes_spelled l.text)
