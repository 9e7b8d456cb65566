-- The numbers of the modes. Assumes nothing.
use Rattle.std.specs.Prelude.{ℕ, [], ◌∷◌, Option, Result, ◌==◌, find, ok_or}
use Rattle.bank.specs.declared.mode.Mode.{Mode}
use Rattle.bank.specs.declared.mode.Mode.TheVariants.{SiC2, SiLBLB, AtmBLB, AtmSK}
use Rattle.bank.specs.declared.mode.UnknownMode.{UnknownMode}

-- The number of each mode.
abbrev pub mode_number : Mode → ℕ
mode_number SiC2 = 0
mode_number SiLBLB = 1
mode_number AtmBLB = 2
mode_number AtmSK = 3

-- The mode that has the number, if any.
abbrev pub mode_of : ℕ → Option Mode
mode_of number = find (λ m. mode_number m == number) (SiC2 ∷ SiLBLB ∷ AtmBLB ∷ AtmSK ∷ [])

-- The mode that has the number, or the number as an error.
abbrev pub mode_decoded : ℕ → Result Mode UnknownMode
mode_decoded number = ok_or (mode_of number) (record { 0 = number })
