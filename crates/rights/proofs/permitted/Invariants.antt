-- The tracks below t have their own mark, the others that of a root. Assumes nothing.
use Rattle.plan.specs.Plans.{plan_in}
use Rattle.std.proofs.Common.{false}
use Rattle.lookup.specs.Figures.{Figures}
use Rattle.rights.proofs.Held.{marked_to}
use Rattle.rights.proofs.permitted.Given as goal

abbrev pub invariant-loop-t : goal.invariant-loop-t
invariant-loop-t l = Figures false l.may l.plan.records.counts.tracks (marked_to (plan_in l.plan.records) l.fn.right l.society l.t)
