use Rattle.std.proofs.Common.{◌≡◌, List, [], ◌∷◌, ◌++◌, ℕ, length, drop, Some, None, Option, MatchOption, option_to_list, ap₂, ◌∙◌}
use Rattle.wire.specs.Fields.{fields_of}
use Rattle.wire.specs.Frames.{frame}
use Rattle.wire.proofs.Writing.{frame_written}
use Rattle.wire.proofs.write.put_frame.Goals as goal

in_a_slice : (ack : Option ℕ) (xs : List ℕ) → MatchOption ack (xs ≡ []) (λ x. xs ≡ x ∷ []) → xs ≡ option_to_list ack
in_a_slice None xs e = e
in_a_slice (Some x) xs e = e

pub returns-clause-buffer : goal.returns-clause-buffer
returns-clause-buffer c =
    let f = fields_of c.args.message in
    frame_written c.with-form.result.start f c.as_slice-ack.result.now _ c.args.out.now _ _ _ _
    c.header_of.ensures c.put.ensures c.put-2.ensures c.put-3.ensures c.append_crc.ensures
    ∙ ap₂ (λ s xs. frame s f xs ++ drop (length (frame s f xs)) c.args.out.now) c.with-form.ensures.start (in_a_slice c.args.ack _ c.as_slice-ack.ensures)
