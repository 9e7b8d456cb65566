use Rattle.std.proofs.Common.{◌≡◌, ℕ, suc, ap, ◌∙◌, arith, rules}
use Rattle.std.proofs.lemmas.List.{length-replicate}
use Rattle.flash.specs.Rules.{replacing}
use Rattle.flash.specs.Blocks.{blank, blanked}
use Rattle.flash.proofs.Blocks.{blanked_again, landed_end, landed_more}
use Rattle.flash.proofs.blank_block.Goals as goal

pub loop-i-preserved : goal.loop-i-preserved
loop-i-preserved c =
    let n : c.loop-i.i-iterator.n ≡ suc c.next.new.self.n = omega (arith, c.in-Some.ensures) in
    let more = landed_more replacing c.in-Some.i 255 (blank c.next.new.self.n) c.loop-i.memory (omega (arith, c.in-Some.ensures)) in
    search (rules, more, rw n at c.loop-i.invariant.left)

pub returns : goal.returns
returns c =
    let start = c.args.start in
    let count = c.args.count in
    let left = c.loop-i.i-iterator in
    let end =
    landed_end replacing left.iter.start (blank left.n) c.loop-i.memory
    (λ h. omega (arith, length-replicate {A = ℕ} left.n 255, c.in-None.ensures.steps)) in
    let whole : c.loop-i.memory ≡ blanked start count c.args.memory.now = cc in
    record {
      blanks = whole;
      retry = λ ks os b e. whole ∙ ap (blanked start count) e ∙ blanked_again start count ks os b;
    }
