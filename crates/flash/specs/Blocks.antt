-- What a block leaves in a memory, landed whole or torn by failing power. Assumes nothing.
use Rattle.std.specs.Prelude.{◌≡◌, ℕ, List, [], ◌∷◌, ◌++◌, length, take, drop, replicate}
use Rattle.byte_rows.specs.Bytes.{Bytes}
use Rattle.flash.specs.Rules.{replacing}

-- Values landed by the rule f over the cells from the first one on. Cells past the last value keep what they held, and
-- values past the last cell land nowhere.
abbrev pub land_all : (ℕ → ℕ → ℕ) → List ℕ → List ℕ → List ℕ
land_all f [] vs = []
land_all f (o ∷ os) [] = o ∷ os
land_all f (o ∷ os) (v ∷ vs) = f o v ∷ land_all f os vs

-- The memory os after a block, the values vs, landed in it by the rule f from an address upward.
abbrev pub landed : (ℕ → ℕ → ℕ) → ℕ → List ℕ → List ℕ → List ℕ
landed f start vs os = take start os ++ land_all f (drop start os) vs

-- The bytes of a blank block.
abbrev pub blank : ℕ → List ℕ
blank count = replicate count 255

-- The memory os after count bytes of it, from an address upward, were set to FF.
abbrev pub blanked : ℕ → ℕ → List ℕ → List ℕ
blanked start count os = landed replacing start (blank count) os

-- The memory os after the same block was tried again and again, the latest try first, and torn each time: of each try only its
-- lowest bytes landed, as many as its torn length says.
abbrev pub torn_tries : (ℕ → ℕ → ℕ) → ℕ → List ℕ → List ℕ → List ℕ → List ℕ
torn_tries f start vs [] os = os
torn_tries f start vs (k ∷ ks) os = landed f start (take k vs) (torn_tries f start vs ks os)

-- The retry law, of a memory before and after: if the same block had been torn before, at any lengths and any number of times,
-- then the memory after is the one from before the first try with the whole block landed once.
abbrev pub Retried : (ℕ → ℕ → ℕ) → ℕ → List ℕ → List ℕ → List ℕ → Type 0
Retried f start vs before after = (ks os : List ℕ) → Bytes os → before ≡ torn_tries f start vs ks os → after ≡ landed f start vs os

-- The law of blank flash: if the place of the block was blank before, it holds exactly the block after, whatever the rule.
abbrev pub Exact : ℕ → List ℕ → List ℕ → List ℕ → Type 0
Exact start vs before after = (os : List ℕ) → before ≡ blanked start (length vs) os → after ≡ landed replacing start vs os
