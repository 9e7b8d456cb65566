-- Which lines ask for what. Assumes nothing.
use Rattle.std.proofs.Common.{◌≡◌, ◌≢◌, ℕ, ◌-◌, ◌/◌, ◌%◌, ◌<◌, true, leb, List, [], ◌∷◌, ◌++◌, length, get_or, Some, refl, ap, ◌∙◌, ap₂, div-add-mod', arith}
use Rattle.std.proofs.lemmas.Bool.{le-leb, ne_eqb}
use Rattle.std.proofs.lemmas.List.Elements.{All-from_recursion}
use Rattle.byte_rows.specs.Bytes.{Bytes}
use Rattle.hex_text.specs.Hex.{hex_address, hex_byte, hex_bytes}
use Rattle.hex_text.proofs.Spelling.{Printable, byte_back, bytes_back, bytes_printable, digit_printable}
use Rattle.wire.specs.Fields.{Fields}
use Rattle.pcframe_requests.specs.Laws.{RequestLaws, bytes_line, command_line}
use Rattle.pcframe_requests.specs.Requests.{asked, asked_by, head_spelled, packing, packing_of, trimmed, unpacking, unpacking_of}

untrimmed : (line : List ℕ) → get_or line (length line - 1) 0 ≢ 13 → trimmed line ≡ line
untrimmed line last = rw (ne_eqb _ 13 last)

-- nothing that is shown ends in a carriage return
shown_last : (line : List ℕ) → Printable line → get_or line (length line - 1) 0 ≢ 13
shown_last [] shown = omega arith
shown_last (c ∷ text) shown =
    let end = length (c ∷ text) - 1 in
    omega (arith, All-from_recursion (λ x. 31 < x) (c ∷ text) shown end 0 (omega arith))

-- the text behind the p
abbrev behind : Fields → List ℕ
behind f = 32 ∷ (hex_byte f.command ++ (32 ∷ (hex_address f.address ++ hex_bytes f.param)))

head_back : (f : Fields) → f.command < 256 → f.address < 65536 → head_spelled (behind f) ≡ Some (f.command, f.address)
head_back f c a =
    let long : leb 8 (length (behind f)) ≡ true = le-leb 8 (length (behind f)) (omega arith) in
    rw (long, byte_back f.command c, byte_back (f.address / 256) (omega arith), byte_back (f.address % 256) (omega arith))
    (ap (λ n. Some (f.command, n)) (div-add-mod' f.address 256))

command_asked : (f : Fields) → f.command < 256 → f.address < 65536 → Bytes f.param → asked (command_line f) ≡ packing f
command_asked f c a bytes =
    let d = digit_printable in
    let shown : Printable (command_line f) = (omega arith, (omega arith, (d _, (d _, (omega arith, (d _, (d _, (d _, (d _, bytes_printable f.param))))))))) in
    ap asked_by (untrimmed (command_line f) (shown_last (command_line f) shown))
    ∙ ap₂ packing_of (head_back f c a) (bytes_back f.param bytes)

bytes_asked : (bs : List ℕ) → Bytes bs → asked (bytes_line bs) ≡ unpacking bs
bytes_asked bs bytes =
    let shown : Printable (bytes_line bs) = (omega arith, bytes_printable bs) in
    ap asked_by (untrimmed (bytes_line bs) (shown_last (bytes_line bs) shown)) ∙ ap unpacking_of (bytes_back bs bytes)

pub request_laws : (line : List ℕ) → RequestLaws line
request_laws line = record {
  packs = λ f c a bytes e. ap asked e ∙ command_asked f c a bytes;
  unpacks = λ bs bytes e. ap asked e ∙ bytes_asked bs bytes;
}
