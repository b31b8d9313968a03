-- The invariant: abandoning is done for the tracks visited. Assumes nothing.
use Rattle.plan.specs.Plans.{plan_in}
use Rattle.ledger.specs.Ladder.{ledger_of}
use Rattle.withdrawal.specs.Scopes.{Cleared}
use Rattle.withdrawal.proofs.abandoning.left_open.Given as goal

abbrev pub invariant-loop-t : goal.invariant-loop-t
invariant-loop-t l = Cleared (plan_in l.plan.records) (ledger_of l.terms l.plan.records.counts l.ledger) l.scopes l.t
