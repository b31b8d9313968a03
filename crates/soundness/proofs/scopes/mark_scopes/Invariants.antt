-- The marks by the tracks visited. Assumes nothing.
use Rattle.plan.specs.Plans.{plan_in}
use Rattle.ledger.specs.Ladder.{ledger_of}
use Rattle.soundness.specs.Parts.{Marked}
use Rattle.soundness.proofs.scopes.mark_scopes.Given as goal

abbrev pub invariant-loop-t : goal.invariant-loop-t
invariant-loop-t l = Marked (plan_in l.plan.records) (ledger_of l.terms l.plan.records.counts l.ledger) l.t l.marks
