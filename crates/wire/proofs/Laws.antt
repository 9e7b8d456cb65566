-- The laws of the formats, from the trips there and back and from the neighbours law of the checksum. Assumes nothing.
use Rattle.std.proofs.Common.{◌≡◌, ℕ, ◌+◌, ◌-◌, ◌/◌, ◌%◌, ◌<◌, ◌≤◌, Bool, true, false, cond, List, [], ◌∷◌, ◌++◌, length, get_or, take, drop, Some, None, Ok, Err, Result, sym, refl, ap, ◌∙◌, subst, arith}
use Rattle.std.proofs.lemmas.List.{append_assoc, get_or_at, length-append, take_at}
use Rattle.std.proofs.lemmas.Bool.Decides.{nat_tests}
use Rattle.std.proofs.lemmas.Bool.{false_from_ne_true}
use Rattle.std.proofs.lemmas.Grind.{common_steps}
use Rattle.byte_rows.specs.Bytes.{Bytes}
use Rattle.crc16.specs.Crc.{crc_of}
use Rattle.byte_rows.proofs.Bytes.{bytes_append, bytes_cons, bytes_drop, bytes_none, bytes_take}
use Rattle.crc16.proofs.Neighbours.{from_below, neighbours}
use Rattle.crc16.proofs.Residue.{residue}
use Rattle.wire.specs.declared.refusal.Refusal.{Refusal}
use Rattle.wire.specs.declared.refusal.Refusal.TheVariants.{NotAReply, WrongCrc}
use Rattle.wire.specs.Fields.{ReplyFields, CountFits, Fields, Fit}
use Rattle.wire.specs.Frames.{big_endian, command_frame, frame, header, param_count, reply_frame}
use Rattle.wire.specs.Laws.{FitReply, Noisy, Replies, Commands}
use Rattle.wire.specs.Packing.{buffer_after, write_result}
use Rattle.wire.specs.Reading.{intact, damaged, count_in, crc_right, fields_in, command_in, frame_in, number_at, shaped, unpacked}
use Rattle.wire.proofs.Shapes.{shape_met, shape_parts}
use Rattle.wire.proofs.Trips.{there, back, extra_in}

-- ---- noise

header_bytes : (start : ℕ) (f : Fields) → start < 256 → Fit f → Bytes (header start f)
header_bytes start f first fit = λ k. grind (arith, common_steps, nat_tests)

body_bytes : (start : ℕ) (f : Fields) (extra : List ℕ) → start < 256 → Fit f → Bytes extra → Bytes (header start f ++ (f.param ++ extra))
body_bytes start f extra first fit some =
    bytes_append (header start f) (f.param ++ extra) (header_bytes start f first fit) (bytes_append f.param extra fit.bytes some)

pub frame_bytes : (start : ℕ) (f : Fields) (extra : List ℕ) → start < 256 → Fit f → Bytes extra → Bytes (frame start f extra)
frame_bytes start f extra first fit some =
    let body = header start f ++ (f.param ++ extra) in
    let sum = from_below 0 body (omega arith) (body_bytes start f extra first fit some) in
    bytes_append body (big_endian (crc_of body)) (body_bytes start f extra first fit some)
    (bytes_cons (crc_of body / 256) (crc_of body % 256 ∷ []) (omega arith) (bytes_cons (crc_of body % 256) [] (omega arith) bytes_none))

pub crc_wrong : (start : ℕ) (f : Fields) (extra bs : List ℕ) → start < 256 → Fit f → Bytes extra → Bytes bs → Noisy (frame start f extra) bs
    → (shaped start (length extra + 7) bs ≡ true) × (crc_right bs ≡ false)
crc_wrong start f extra bs first fit some bytes noisy =
    let whole = there start f extra fit.counted in
    let long : length bs ≡ count_in bs + (length extra + 7) =
    sym noisy.altered.as_long ∙ (shape_parts start (length extra + 7) (frame start f extra) whole.shape).1
    ∙ ap (λ b. param_count b + (length extra + 7)) (sym noisy.len) in
    let shape = shape_met start (length extra + 7) bs noisy.start long in
    let right : crc_right bs ≡ true → ⊥ = λ e.
    let framed = back start (length extra + 7) bs (omega arith) bytes shape e in
    let overhead = bytes_take (length extra + 7 - 7) (drop (count_in bs) (drop 5 bs)) (bytes_drop (count_in bs) (drop 5 bs) (bytes_drop 5 bs bytes)) in
    neighbours 0 (frame start f extra) bs (omega arith) (frame_bytes start f extra first fit some) bytes noisy.altered
    (residue (header start f ++ (f.param ++ extra)) (body_bytes start f extra first fit some)
    ∙ sym (ap crc_of framed.same ∙ residue (header start (fields_in bs) ++ ((fields_in bs).param ++ extra_in (length extra + 7) bs))
    (body_bytes start (fields_in bs) (extra_in (length extra + 7) bs) first framed.fit overhead))) in
    (shape, false_from_ne_true (crc_right bs) right)

-- ---- what a cond of two tests says

ok_parts : {X E : Type 0} (s c : Bool) (x y : X) (e e' : E) → cond s (cond c (Ok x) (Err e)) (Err e') ≡ Ok y → (s ≡ true) × (c ≡ true) × (x ≡ y)
ok_parts s c x y e e' h = grind arith

some_parts : (s c : Bool) (f g : Fields) (p q : ℕ) → cond s (Some (cond c (intact f) (damaged p q))) None ≡ Some (intact g) → (s ≡ true) × (c ≡ true) × (f ≡ g)
some_parts s c f g p q h = grind arith

-- ---- commands

pub frame_read : (start : ℕ) (f : Fields) (extra : List ℕ) → CountFits f.param → frame_in start (length extra + 7) (frame start f extra) ≡ Some (intact f)
frame_read start f extra counted =
    let whole = there start f extra counted in
    rw (whole.shape, whole.crc) (ap (λ g. Some (intact g)) whole.fields)

only_command : (bs : List ℕ) (f : Fields) → Bytes bs → command_in bs ≡ Some (intact f) → (bs ≡ command_frame f) × Fit f
only_command bs f bytes e =
    let parts = some_parts (shaped 0x2F 7 bs) (crc_right bs) (fields_in bs) f (get_or bs 1 0) (number_at bs 2) e in
    let framed = back 0x2F 7 bs (omega arith) bytes parts.0 parts.1 in
    (framed.same ∙ ap command_frame parts.2, subst Fit parts.2 framed.fit)

pub commands : (bs : List ℕ) → Bytes bs → Commands bs
commands bs bytes = record {
  exactly = λ f fit e. ap command_in e ∙ frame_read 0x2F f [] fit.counted;
  only = λ f e. only_command bs f bytes e;
  noise = λ f fit noisy.
      let wrong = crc_wrong 0x2F f [] bs (omega arith) fit bytes_none bytes noisy in
      rw (wrong.0, wrong.1);
}

-- ---- replies

-- the ACK is the third byte from the end
ack_at : (a : ReplyFields) → get_or (reply_frame a) (length (reply_frame a) - 3) 0 ≡ a.ack
ack_at a =
    let before = header 0x2E a.fields ++ a.fields.param in
    let sum = big_endian (crc_of (header 0x2E a.fields ++ (a.fields.param ++ a.ack ∷ []))) in
    let place : length (reply_frame a) - 3 ≡ length before = simp length-append (omega arith) in
    let split : reply_frame a ≡ before ++ a.ack ∷ sum = ap (λ l. header 0x2E a.fields ++ l) (append_assoc a.fields.param (a.ack ∷ []) sum) in
    rw place (ap (λ l. get_or l (length before) 0) split ∙ get_or_at before a.ack sum 0 (length before) refl)

pub frame_unpacked : (a : ReplyFields) → CountFits a.fields.param → unpacked (reply_frame a) ≡ Ok a
frame_unpacked a counted =
    let bs = reply_frame a in
    let whole = there 0x2E a.fields (a.ack ∷ []) counted in
    rw (whole.shape, whole.crc) (λ i. Ok (record { fields = whole.fields i; ack = ack_at a i }))

one_place : (xs : List ℕ) → length xs ≡ 1 → xs ≡ get_or xs 0 0 ∷ []
one_place xs e = grind (arith, common_steps)

only_reply : (bs : List ℕ) (a : ReplyFields) → Bytes bs → unpacked bs ≡ Ok a → (bs ≡ reply_frame a) × FitReply a
only_reply bs a bytes e =
    let parts = ok_parts (shaped 0x2E 8 bs) (crc_right bs) (record { fields = fields_in bs; ack = get_or bs (length bs - 3) 0 }) a WrongCrc NotAReply e in
    let framed = back 0x2E 8 bs (omega arith) bytes parts.0 parts.1 in
    let last : ℕ = get_or (extra_in 8 bs) 0 0 in
    let same : bs ≡ reply_frame (record { fields = fields_in bs; ack = last }) =
    framed.same ∙ ap (frame 0x2E (fields_in bs)) (one_place (extra_in 8 bs) (omega (arith, framed.extra))) in
    let acked : get_or bs (length bs - 3) 0 ≡ last = ap (λ l. get_or l (length l - 3) 0) same ∙ ack_at (record { fields = fields_in bs; ack = last }) in (
      same ∙ ap (λ k. reply_frame (record { fields = fields_in bs; ack = k })) (sym acked) ∙ ap reply_frame parts.2,
      subst FitReply parts.2 (record { fields = framed.fit; ack = bytes (length bs - 3) }),
    )

pub replies : (bs : List ℕ) → Bytes bs → Replies bs
replies bs bytes = record {
  exactly = λ a fit e. ap unpacked e ∙ frame_unpacked a fit.fields.counted;
  only = λ a e. only_reply bs a bytes e;
  noise = λ a fit noisy.
      let wrong = crc_wrong 0x2E a.fields (a.ack ∷ []) bs (omega arith) fit.fields (bytes_cons a.ack [] fit.ack bytes_none) bytes noisy in
      rw (wrong.0, wrong.1);
}

-- ---- what was written is read

-- a frame that was written has 1 to 256 parameter bytes, and the result is its length
done_parts : (count overhead space n : ℕ) → write_result count overhead space ≡ Ok n → (1 ≤ count) × (count ≤ 256) × (count + overhead ≡ n)
done_parts count overhead space n e = grind (arith, nat_tests)

-- the front of a buffer that a frame was written to is the frame
pub written : (start : ℕ) (f : Fields) (extra old new : List ℕ) (r : Result ℕ Refusal) (n : ℕ)
    → r ≡ write_result (length f.param) (length extra + 7) (length old) → new ≡ buffer_after r (frame start f extra) old
    → r ≡ Ok n → (take n new ≡ frame start f extra) × CountFits f.param
written start f extra old new r n result buffer done =
    let parts = done_parts (length f.param) (length extra + 7) (length old) n (sym result ∙ done) in
    let long : length (frame start f extra) ≡ n = simp length-append (omega (arith, parts.2)) in (
      ap (take n) (buffer ∙ ap (λ x. buffer_after x (frame start f extra) old) done) ∙ take_at (frame start f extra) _ n long,
      record { some = parts.0; few = parts.1 },
    )
