-- Writing a block with a new supply, again and again. Assumes nothing.
use Rattle.std.specs.Prelude.{◌≡◌, ℕ, true, List, [], ◌∷◌, length}
use Rattle.flash.specs.Blocks.{landed}
use Rattle.bank.specs.declared.space.Space.{Space}
use Rattle.bank.specs.Channels.{Channel, Sound}
use Rattle.bank.specs.Effects.{entered, memory, program_answered, rule_of, supplied, written}

-- A channel with a new supply, and awake if that is not 0.
abbrev pub roused : ℕ → Channel → Channel
roused units c = entered (supplied units c)

-- A channel after any number of attempts at the same block, the latest first: each a new supply, enter, and a write.
abbrev pub attempts : Space → ℕ → List ℕ → List ℕ → Channel → Channel
attempts space start vs [] c = c
attempts space start vs (units ∷ before) c = written space start vs (roused units (attempts space start vs before c))

-- The memory of a channel with the whole block landed once.
abbrev pub landed_once : Space → ℕ → List ℕ → Channel → List ℕ
landed_once space start vs c = landed (rule_of space c) start vs (memory space c)

-- The retry law: if the write of an attempt is answered, then, whatever the supplies of all attempts before it, the memory is that from
-- before the first of them with the whole block landed once.
abbrev pub Retry : Space → ℕ → List ℕ → Type 0
Retry space start vs =
    (units : ℕ) (before : List ℕ) (c : Channel) → Sound c →
    program_answered space start (length vs) (roused units (attempts space start vs before c)) ≡ true →
    memory space (attempts space start vs (units ∷ before) c) ≡ landed_once space start vs c
