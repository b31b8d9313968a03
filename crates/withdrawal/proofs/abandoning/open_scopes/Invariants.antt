-- The invariant: each track's count is that of the busy tracks visited. Assumes nothing.
use Rattle.plan.specs.Plans.{plan_in}
use Rattle.ledger.specs.Ladder.{ledger_of}
use Rattle.withdrawal.specs.Scopes.{Counted}
use Rattle.withdrawal.proofs.abandoning.open_scopes.Given as goal

abbrev pub invariant-loop-t : goal.invariant-loop-t
invariant-loop-t l = Counted (plan_in l.plan.records) (ledger_of l.terms l.plan.records.counts l.ledger) l.opens l.busy l.t
