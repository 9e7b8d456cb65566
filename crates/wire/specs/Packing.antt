-- What writing a frame into a caller's buffer comes to. Assumes nothing.
use Rattle.std.specs.Prelude.{ℕ, ◌+◌, if◌then◌else◌, ◌&&◌, List, ◌++◌, length, take, drop, is_ok, Ok, Err, Result, nat_le}
use Rattle.wire.specs.declared.refusal.Refusal.{Refusal}
use Rattle.wire.specs.declared.refusal.Refusal.TheVariants.{ShortBuffer, ParamCount}

-- The result: the length of the frame, which has `count` parameter bytes and `overhead` other bytes. No parameter byte, or
-- more than 256, is refused first, then a buffer that is shorter than the frame.
abbrev pub write_result : (count overhead space : ℕ) → Result ℕ Refusal
write_result count overhead space =
    if nat_le 1 count && nat_le count 256
    then (if nat_le (count + overhead) space then Ok (count + overhead) else Err ShortBuffer)
    else Err ParamCount

-- The buffer after: the frame at its front and the rest as it was, or all as it was after a refusal.
abbrev pub buffer_after : Result ℕ Refusal → List ℕ → List ℕ → List ℕ
buffer_after r bytes buffer = if is_ok r then bytes ++ drop (length bytes) buffer else buffer

-- A buffer with a part copied into it from place `at` on.
abbrev pub written_at : List ℕ → ℕ → List ℕ → List ℕ
written_at buffer at part = take at buffer ++ (part ++ drop (at + length part) buffer)
