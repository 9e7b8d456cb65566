-- Bytes with their checksum behind them, high byte first, have the checksum 0. Assumes nothing.
use Rattle.std.proofs.Common.{◌≡◌, ℕ, ◌+◌, ◌*◌, ◌/◌, ◌%◌, ◌^◌, ◌<◌, List, [], ◌∷◌, ◌++◌, sym, ap, ◌∙◌, ap₂, add-zero, div-add-mod', arith}
use Rattle.std.proofs.lemmas.List.Sums.{fold-append}
use lib.Bits.{bit_xor, xor_block, xor_self, xor_zero_r}
use Rattle.byte_rows.specs.Bytes.{Bytes}
use Rattle.crc16.specs.Crc.{shifts, crc_step, crc_of}
use Rattle.crc16.proofs.Register.{low_up}
use Rattle.crc16.proofs.Neighbours.{from_below}

-- the register's own halves bring it to 0
own_halves : (c : ℕ) → c < 2 ^ 16 → crc_step (crc_step c (c / 256)) (c % 256) ≡ 0
own_halves c h =
    let hl : c % 256 < 256 = omega arith in
    let low : bit_xor c (c / 256 * 256) ≡ c % 256 =
    ap₂ bit_xor (sym (div-add-mod' c 256)) (sym (add-zero (c / 256 * 256)))
    ∙ xor_block 8 (c / 256) (c / 256) (c % 256) 0 hl (omega arith)
    ∙ ap₂ (λ x y. x * 256 + y) (xor_self (c / 256)) (xor_zero_r (c % 256)) ∙ omega arith in
    ap (λ x. shifts 8 (bit_xor x (c % 256 * 256))) (ap (shifts 8) low ∙ low_up (c % 256) hl)
    ∙ ap (shifts 8) (xor_self (c % 256 * 256)) ∙ low_up 0 (omega arith)

pub residue : (xs : List ℕ) → Bytes xs → crc_of (xs ++ crc_of xs / 256 ∷ crc_of xs % 256 ∷ []) ≡ 0
residue xs bx = fold-append crc_step 0 xs _ ∙ own_halves (crc_of xs) (from_below 0 xs (omega arith) bx)
