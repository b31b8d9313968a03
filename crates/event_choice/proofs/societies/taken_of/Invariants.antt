-- After t visits the tracks below t take what the society may move. Assumes nothing.
use Rattle.std.proofs.Common.{false, cond, get_or}
use Rattle.std.proofs.Math.Option.{none}
use Rattle.lookup.specs.Figures.{Numbers}
use Rattle.event_choice.specs.Next.{moves_of}
use Rattle.event_choice.proofs.societies.taken_of.Given as goal

abbrev pub invariant-loop-t : goal.invariant-loop-t
invariant-loop-t l = Numbers l.taken l.t (λ u. cond (get_or l.may u false) (moves_of l.all l.fn.plan.records.counts.tracks u) none)
