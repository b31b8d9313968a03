-- After g visits the marks are of the grants below g. Assumes nothing.
use Rattle.plan.specs.Plans.{plan_in}
use Rattle.std.proofs.Common.{false}
use Rattle.lookup.specs.Figures.{Figures}
use Rattle.rights.proofs.Held.{held_below}
use Rattle.rights.proofs.roots_held.Given as goal

abbrev pub invariant-loop-g : goal.invariant-loop-g
invariant-loop-g l = Figures false l.held l.plan.records.counts.tracks (held_below (plan_in l.plan.records) l.right l.society l.g)
