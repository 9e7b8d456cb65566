-- The checks of a table, gone through. Assumes nothing.
use Rattle.std.proofs.Common.{◌≡◌, true, List, [], ◌∷◌}
use Rattle.std.proofs.lemmas.Bool.{cond_both}
use Rattle.bank.specs.Channels.{Channel}
use Rattle.wire.specs.declared.ack.Ack.{Ack}
use Rattle.session.specs.declared.session.Session.{Session}
use Rattle.session.specs.Outcomes.{Check, Outcome, judged, refused}

-- all checks hold
abbrev pub AllHold : List Check → Type 0
AllHold [] = Unit {0}
AllHold (check ∷ rest) = (check.holds ≡ true) × AllHold rest

-- what holds of every refusal, and of what is done where all checks hold, holds of the outcome
pub judged_both : (P : Outcome → Type 0) (checks : List Check) (done : Outcome) (s : Session) (cs : List Channel) →
    ((a : Ack) → P (refused a s cs)) → (AllHold checks → P done) → P (judged checks done s cs)
judged_both P [] done s cs fails passes = passes tt
judged_both P (check ∷ rest) done s cs fails passes =
    cond_both check.holds (judged rest done s cs) (refused check.otherwise s cs) P
    (λ e. judged_both P rest done s cs fails (λ all. passes (e, all)))
    (λ _. fails check.otherwise)
