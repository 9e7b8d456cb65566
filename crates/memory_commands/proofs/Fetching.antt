-- What a read leaves in its buffer. Assumes nothing.
use Rattle.std.proofs.Common.{◌≡◌, ℕ, zero, suc, Bool, true, false, cond, List, [], ◌∷◌, ◌++◌, length, take, sym, refl, ◌∙◌, ap₂}
use Rattle.std.proofs.lemmas.List.{take_at}
use Rattle.bank.specs.declared.space.Space.{Space}
use Rattle.bank.specs.Channels.{Channel, ask}
use Rattle.bank.specs.Effects.{reached, read_into}
use Rattle.session.specs.Doing.{bytes_at}

-- the bytes of the range where it is answered, and otherwise what the buffer held
pub filled : (space : Space) (start : ℕ) (buffer : List ℕ) (cs : List Channel) (i : ℕ) →
    ask buffer (read_into space start buffer) cs i
    ≡ cond (ask false (reached space start (length buffer)) cs i) (ask [] (bytes_at space start (length buffer)) cs i) buffer
filled space start buffer [] i = refl
filled space start buffer (c ∷ cs) zero = refl
filled space start buffer (c ∷ cs) (suc i) = filled space start buffer cs i

-- the same of a buffer whose front of count bytes is lent to the read, with the rest behind it
pub fetched_front : (space : Space) (start count : ℕ) (front got rest : List ℕ) (cs : List Channel) (i : ℕ) (r : Bool) → length front ≡ count →
    length got ≡ count → r ≡ ask false (reached space start (length front)) cs i → got ≡ ask front (read_into space start front) cs i →
    take count (got ++ rest) ≡ cond r (ask [] (bytes_at space start count) cs i) front
fetched_front space start count front got rest cs i r long kept told bytes =
    take_at got rest count kept ∙ bytes ∙ filled space start front cs i
    ∙ ap₂ (λ b n. cond b (ask [] (bytes_at space start n) cs i) front) (sym told) long

-- the bytes of the range
pub read_bytes : (space : Space) (start count : ℕ) (buffer : List ℕ) (cs : List Channel) (i : ℕ) → length buffer ≡ count →
    ask false (reached space start count) cs i ≡ true →
    ask buffer (read_into space start buffer) cs i ≡ ask [] (bytes_at space start count) cs i
read_bytes space start count buffer [] i long h = cc
read_bytes space start count buffer (c ∷ cs) zero long h = rw (long, h)
read_bytes space start count buffer (c ∷ cs) (suc i) long h = read_bytes space start count buffer cs i long h
