-- Parts copied into a buffer one behind another. Assumes nothing.
use Rattle.std.proofs.Common.{◌≡◌, ℕ, ◌+◌, List, ◌++◌, length, take, drop, sym, refl, ap, ◌∙◌, ap₂, zero-add, arith}
use Rattle.std.proofs.lemmas.List.{append_assoc, drop_at, drop-drop, length-append, take_at}
use Rattle.crc16.specs.Crc.{crc_of}
use Rattle.wire.specs.Fields.{Fields}
use Rattle.wire.specs.Frames.{big_endian, frame, header}
use Rattle.wire.specs.Packing.{written_at}

-- a part at the front of a buffer
abbrev front : List ℕ → List ℕ → List ℕ
front part out = part ++ drop (length part) out

behind : (a b out : List ℕ) (at : ℕ) → length a ≡ at → written_at (front a out) at b ≡ front (a ++ b) out
behind a b out at long =
    ap₂ (λ l m. l ++ (b ++ m)) (take_at a _ at long)
    (sym (drop-drop (length b) at (front a out)) ∙ ap (drop (length b)) (drop_at a _ at long) ∙ drop-drop (length b) (length a) out
    ∙ ap (λ n. drop n out) (sym (length-append a b)))
    ∙ sym (append_assoc a b _)

-- header, parameter, extra and CRC, copied one behind another, are the frame at the front of the buffer
pub frame_written : (start : ℕ) (f : Fields) (extra head out o₁ o₂ o₃ o₄ : List ℕ) → head ≡ header start f → o₁ ≡ written_at out 0 head
    → o₂ ≡ written_at o₁ 5 f.param → o₃ ≡ written_at o₂ (5 + length f.param) extra
    → o₄ ≡ written_at o₃ (5 + length f.param + length extra) (big_endian (crc_of (take (5 + length f.param + length extra) o₃)))
    → o₄ ≡ frame start f extra ++ drop (length (frame start f extra)) out
frame_written start f extra head out o₁ o₂ o₃ o₄ e h₁ h₂ h₃ h₄ =
    let body = header start f ++ (f.param ++ extra) in
    let end = 5 + length f.param + length extra in
    let at₃ : length (header start f ++ f.param) ≡ 5 + length f.param = length-append (header start f) f.param in
    let at₄ : length body ≡ end = simp length-append (omega arith) in
    let g₁ : o₁ ≡ front (header start f) out = h₁ ∙ ap (λ l. written_at out 0 l) e ∙ ap (λ n. header start f ++ drop n out) (zero-add 5) in
    let g₂ : o₂ ≡ front (header start f ++ f.param) out = h₂ ∙ ap (λ l. written_at l 5 f.param) g₁ ∙ behind (header start f) f.param out 5 refl in
    let g₃ : o₃ ≡ front body out =
    h₃ ∙ ap (λ l. written_at l (5 + length f.param) extra) g₂ ∙ behind (header start f ++ f.param) extra out _ at₃
    ∙ ap (λ l. front l out) (append_assoc (header start f) f.param extra) in
    h₄ ∙ ap (λ l. written_at l end (big_endian (crc_of (take end l)))) g₃
    ∙ ap (λ l. written_at (front body out) end (big_endian (crc_of l))) (take_at body _ end at₄)
    ∙ behind body (big_endian (crc_of body)) out end at₄
