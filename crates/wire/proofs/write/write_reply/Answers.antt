use Rattle.std.proofs.Common.{[], ◌∷◌, Ok, ap, ◌∙◌}
use Rattle.wire.specs.Fields.{fields_of}
use Rattle.wire.specs.Reading.{unpacked}
use Rattle.wire.proofs.Laws.{frame_unpacked, written}
use Rattle.wire.proofs.write.write_reply.Goals as goal

pub returns-clause-read_back : goal.returns-clause-read_back
returns-clause-read_back c = λ n e.
    let f = fields_of c.args.message in
    let ack = c.into.result in
    let front = written 0x2E f (ack ∷ []) _ _ _ n c.put_frame.ensures.result c.put_frame.ensures.buffer e in
    ap unpacked front.0 ∙ frame_unpacked (record { fields = f; ack = ack }) front.1 ∙ ap (λ a. Ok (record { fields = f; ack = a })) c.into.ensures
