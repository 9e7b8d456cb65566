use Rattle.std.proofs.Common.{◌≡◌, ◌+◌, sym, ap, ◌∙◌, take, drop, arith}
use Rattle.std.proofs.lemmas.List.{length-drop}
use Rattle.byte_rows.specs.Bytes.{Bytes}
use Rattle.flash.specs.Blocks.{landed}
use Rattle.flash.proofs.Blocks.{exact, landed_end, landed_enough, retried}
use Rattle.flash.proofs.land_block.Goals as goal

pub returns : goal.returns
returns g c =
    let f = g.L.Landing.rule in
    let laws = g.met.L.Landing in
    let start = c.args.start in
    let vs = c.args.values.now in
    let os = c.args.memory.now in
    let room = c.saturating_sub.result in
    let landing = c.with_room-landing.result.now in
    let bytes : Bytes vs = λ k. (c.type_inv.values k).fits in
    let end =
    landed_end f (start + c.loop-i.i) (drop c.loop-i.i landing) c.loop-i.memory (λ h. omega (arith, h, length-drop c.loop-i.i landing, c.loop-i-test.false)) in
    let enough = landed_enough f start vs os room (λ h. omega (arith, h, c.saturating_sub.ensures)) in
    let front : landed f start landing os ≡ landed f start (take room vs) os = ap (λ ws. landed f start ws os) c.with_room-landing.ensures in
    let whole : c.loop-i.memory ≡ landed f start vs os = sym end ∙ c.loop-i.invariant ∙ front ∙ enough in
    record {
      lands = whole;
      retry = λ ks os b e. whole ∙ ap (landed f start vs) e ∙ retried f laws.onbytes laws.idempotent start vs ks os bytes b;
      exact = λ os e. whole ∙ ap (landed f start vs) e ∙ exact f laws.onblank start vs os bytes;
    }
