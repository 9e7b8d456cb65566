use Rattle.std.proofs.Common.{[], ap, ◌∙◌}
use Rattle.wire.specs.Fields.{fields_of}
use Rattle.wire.specs.Reading.{command_in}
use Rattle.wire.proofs.Laws.{frame_read, written}
use Rattle.wire.proofs.write.pack.Goals as goal

pub returns-clause-front : goal.returns-clause-front
returns-clause-front c = λ n e. (written 0x2F (fields_of c.args.message) [] _ _ _ n c.put_frame.ensures.result c.put_frame.ensures.buffer e).0

pub returns-clause-read_back : goal.returns-clause-read_back
returns-clause-read_back c = λ n e.
    let front = written 0x2F (fields_of c.args.message) [] _ _ _ n c.put_frame.ensures.result c.put_frame.ensures.buffer e in
    ap command_in front.0 ∙ frame_read 0x2F (fields_of c.args.message) [] front.1
