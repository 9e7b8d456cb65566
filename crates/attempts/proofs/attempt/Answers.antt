use Rattle.attempts.proofs.Retries.{retry}
use Rattle.attempts.proofs.attempt.Goals as goal

pub returns-clause-retry : goal.returns-clause-retry
returns-clause-retry g c = retry c.args.space c.args.start c.args.values.now (λ k. (c.type_inv.values k).fits)
