use Rattle.std.proofs.Common.{◌≡◌, sym, ◌∙◌, arith, rules}
use Rattle.crc16.specs.Crc.{crc_from}
use Rattle.crc16.proofs.Neighbours.{neighbours}
use Rattle.crc16.proofs.after.Goals as goal

pub returns : goal.returns
returns c =
    let crc = c.args.crc in
    let bytes = c.args.bytes.now in
    let value : c.fold.result ≡ crc_from crc bytes = search rules in
    record {
      value = value;
      neighbours = λ ys fit altered same. neighbours crc bytes ys (omega arith) (λ k. (c.type_inv.bytes k).fits) fit altered (sym value ∙ same);
    }
