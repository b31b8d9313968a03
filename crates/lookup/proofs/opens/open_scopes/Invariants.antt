-- After t visits a track is marked if one of the tracks below t is awake in its scope. Assumes nothing.
use Rattle.plan.specs.Plans.{plan_in}
use Rattle.std.proofs.Common.{false}
use Rattle.ledger.specs.Ladder.{ledger_of}
use Rattle.lookup.specs.Figures.{Figures}
use Rattle.lookup.proofs.Inside.{some_inside}
use Rattle.lookup.proofs.opens.open_scopes.Given as goal

abbrev pub invariant-loop-t : goal.invariant-loop-t
invariant-loop-t l = Figures false l.opens l.plan.records.counts.tracks (some_inside (plan_in l.plan.records) (ledger_of l.terms l.plan.records.counts l.ledger) l.t)
