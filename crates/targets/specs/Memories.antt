-- Memories as lists of bytes. Assumes nothing.
use Rattle.std.specs.Prelude.{ℕ, List, take}
use Rattle.targets.specs.declared.memory.Memory.{Memory}

-- The bytes of a memory: of its array the front is in use, as much of it as its size says.
abbrev pub bytes_in : {most : ℕ} → Memory most → List ℕ
bytes_in m = take m.size m.cells
