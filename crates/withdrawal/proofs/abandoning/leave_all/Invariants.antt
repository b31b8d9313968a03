-- The invariant: the tracks visited are asleep where their scope is not left open, the others are as they were. Assumes nothing.
use Rattle.plan.specs.Plans.{plan_in}
use Rattle.std.proofs.Common.{◌≡◌}
use Rattle.rules.specs.Ledger.{written}
use Rattle.rules.proofs.Passes.{up_to}
use Rattle.ledger.specs.Ladder.{ledger_of}
use Rattle.withdrawal.specs.Scopes.{kept_by}
use Rattle.withdrawal.proofs.abandoning.leave_all.Given as goal

abbrev pub invariant-loop-t : goal.invariant-loop-t
invariant-loop-t l = (l.ledger ≡ written l.terms l.plan.records.counts.tracks (up_to (λ u. kept_by (plan_in l.plan.records) l.left.opens u (ledger_of l.terms l.plan.records.counts l.initial.ledger u)) (ledger_of l.terms l.plan.records.counts l.initial.ledger) l.t) l.initial.ledger)
