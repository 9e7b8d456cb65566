-- There and back: the bytes of a frame say what it was made of, and only the bytes of a frame say anything.
-- Assumes nothing.
use Rattle.std.proofs.Common.{◌≡◌, ℕ, ◌+◌, ◌-◌, ◌*◌, ◌/◌, ◌%◌, ◌<◌, ◌≤◌, true, List, [], ◌∷◌, ◌++◌, length, get_or, take, drop, sym, refl, ap, ◌∙◌, ap₂, div-add-mod', arith, take-add}
use Rattle.std.proofs.lemmas.List.{append_assoc, length-append, length-drop, length-take-le, take_at}
use Rattle.std.proofs.lemmas.Bool.Decides.{nat_tests}
use Rattle.std.proofs.lemmas.Bool.{eqb-true}
use Rattle.std.proofs.lemmas.Grind.{common_steps}
use Rattle.byte_rows.specs.Bytes.{Bytes}
use Rattle.crc16.specs.Crc.{crc_of}
use Rattle.byte_rows.proofs.Bytes.{bytes_drop, bytes_take}
use Rattle.wire.specs.Fields.{Fields, Fit, CountFits}
use Rattle.wire.specs.Frames.{param_len, param_count, big_endian, with_crc, header, frame}
use Rattle.wire.specs.Reading.{number_at, count_in, shaped, fields_in, crc_right}
use Rattle.wire.proofs.Shapes.{count_some, shape_met, shape_parts}

-- ---- PARAM_LEN

pub count_len : (n : ℕ) → 1 ≤ n → n ≤ 256 → param_count (param_len n) ≡ n
count_len n some few = grind (arith, nat_tests)

pub len_count : (b : ℕ) → b < 256 → param_len (param_count b) ≡ b
len_count b h = grind (arith, nat_tests)

pub count_few : (b : ℕ) → b < 256 → param_count b ≤ 256
count_few b h = grind (arith, nat_tests)

-- ---- there

crc_met : (body : List ℕ) → crc_right (with_crc body) ≡ true
crc_met body = grind (arith, common_steps, nat_tests)

pub record Whole (start overhead : ℕ) (f : Fields) (bs : List ℕ) : Type 0 where
  pub shape : shaped start overhead bs ≡ true
  pub crc : crc_right bs ≡ true
  pub fields : fields_in bs ≡ f

pub there : (start : ℕ) (f : Fields) (extra : List ℕ) → CountFits f.param → Whole start (length extra + 7) f (frame start f extra)
there start f extra counted =
    let n = length f.param in
    let body = header start f ++ (f.param ++ extra) in
    let many : count_in (frame start f extra) ≡ n = count_len n counted.some counted.few in
    let long : length (frame start f extra) ≡ count_in (frame start f extra) + (length extra + 7) =
    simp length-append (omega (arith, many)) in
    let param : take (count_in (frame start f extra)) (drop 5 (frame start f extra)) ≡ f.param =
    ap (λ k. take k ((f.param ++ extra) ++ big_endian (crc_of body))) many
    ∙ ap (take n) (append_assoc f.param extra _) ∙ take_at f.param _ n refl in
    record {
      shape = shape_met start (length extra + 7) (frame start f extra) refl long;
      crc = crc_met body;
      fields = λ i. record { command = f.command; address = div-add-mod' f.address 256 i; param = param i };
    }

-- ---- and back

-- what stands between the parameter and the CRC
abbrev pub extra_in : ℕ → List ℕ → List ℕ
extra_in overhead bs = take (overhead - 7) (drop (count_in bs) (drop 5 bs))

pub record Framed (start overhead : ℕ) (bs : List ℕ) : Type 0 where
  pub same : bs ≡ frame start (fields_in bs) (extra_in overhead bs)
  pub fit : Fit (fields_in bs)
  pub extra : length (extra_in overhead bs) + 7 ≡ overhead

high : (h l : ℕ) → l < 256 → h ≡ (h * 256 + l) / 256
high h l b = omega arith

low : (h l : ℕ) → l < 256 → l ≡ (h * 256 + l) % 256
low h l b = omega arith

two : (h l : ℕ) → l < 256 → big_endian (h * 256 + l) ≡ h ∷ l ∷ []
two h l b = grind (arith, common_steps)

-- the last two places of a list
last_two : (bs : List ℕ) (m : ℕ) → length bs ≡ m + 2 → bs ≡ take m bs ++ get_or bs m 0 ∷ get_or bs (m + 1) 0 ∷ []
last_two bs m long = grind (arith, common_steps)

-- the first five places of a list, and j more
first_five : (bs : List ℕ) (j : ℕ) → 5 ≤ length bs
    → take (5 + j) bs ≡ (get_or bs 0 0 ∷ get_or bs 1 0 ∷ get_or bs 2 0 ∷ get_or bs 3 0 ∷ get_or bs 4 0 ∷ []) ++ take j (drop 5 bs)
first_five bs j h = grind (arith, common_steps)

pub back : (start overhead : ℕ) (bs : List ℕ) → 7 ≤ overhead → Bytes bs → shaped start overhead bs ≡ true → crc_right bs ≡ true → Framed start overhead bs
back start overhead bs seven bytes shape crc =
    let n = count_in bs in
    let k = overhead - 7 in
    let m = length bs - 2 in
    let f = fields_in bs in
    let first : get_or bs 0 0 ≡ start = (shape_parts start overhead bs shape).0 in
    let long : length bs ≡ n + overhead = (shape_parts start overhead bs shape).1 in
    let some : 1 ≤ n = count_some (get_or bs 4 0) in
    let few : n ≤ 256 = count_few (get_or bs 4 0) (bytes 4) in
    let sum : crc_of (take m bs) ≡ number_at bs m = eqb-true (crc_of (take m bs)) (number_at bs m) crc in
    let param-long : length f.param ≡ n = length-take-le n (drop 5 bs) (omega (arith, length-drop 5 bs)) in
    let extra-long : length (extra_in overhead bs) ≡ k = length-take-le k (drop n (drop 5 bs)) (omega (arith, length-drop n (drop 5 bs), length-drop 5 bs)) in
    let end : m ≡ 5 + (n + k) = omega arith in
    let head : get_or bs 0 0 ∷ get_or bs 1 0 ∷ get_or bs 2 0 ∷ get_or bs 3 0 ∷ get_or bs 4 0 ∷ [] ≡ header start f =
    λ i. first i ∷ get_or bs 1 0 ∷ high (get_or bs 2 0) (get_or bs 3 0) (bytes 3) i ∷ low (get_or bs 2 0) (get_or bs 3 0) (bytes 3) i
    ∷ (sym (ap param_len param-long ∙ len_count (get_or bs 4 0) (bytes 4))) i ∷ [] in
    let body : take m bs ≡ header start f ++ (f.param ++ extra_in overhead bs) =
    ap (λ j. take j bs) end ∙ first_five bs (n + k) (omega arith) ∙ ap₂ ◌++◌ head (take-add n k (drop 5 bs)) in
    record {
      same = last_two bs m (omega arith) ∙ ap (λ l. take m bs ++ l) (sym (ap big_endian sum ∙ two (get_or bs m 0) (get_or bs (m + 1) 0) (bytes (m + 1)))) ∙ ap with_crc body;
      fit = record {
        command = bytes 1;
        address = omega (arith, bytes 2, bytes 3);
        bytes = bytes_take n (drop 5 bs) (bytes_drop 5 bs bytes);
        counted = record { some = omega arith; few = omega arith };
      };
      extra = omega arith;
    }
