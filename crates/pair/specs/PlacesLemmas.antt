-- The channels of a pair are those of a sound bank. The law of the pair's impl cites it. Assumes nothing.
use Rattle.std.specs.Prelude.{◌≡◌, ◌+◌, min, List, ◌++◌, length}
use Rattle.std.proofs.Common.{ap, ◌∙◌, arith}
use Rattle.std.proofs.lemmas.List.{length-append, length-take}
use Rattle.bank.specs.Channels.{Channel, SoundBank}
use Rattle.bank.proofs.Channels.{sound_append, sound_take}
use Rattle.pair.specs.Places.{paired}

pub paired_long : (xs ys : List Channel) → length (paired xs ys) ≡ min 8 (length xs + length ys)
paired_long xs ys = length-take 8 (xs ++ ys) ∙ ap (min 8) (length-append xs ys)

pub paired_sound : (xs ys : List Channel) → SoundBank xs → SoundBank ys → SoundBank (paired xs ys)
paired_sound xs ys a b = record {
  not_empty = omega (arith, a.not_empty, paired_long xs ys);
  at_most = omega (arith, paired_long xs ys);
  all = sound_take 8 (xs ++ ys) (sound_append xs ys a.all b.all);
}
