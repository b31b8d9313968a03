use Rattle.std.proofs.Common.{arith, rules}
use Rattle.lookup.proofs.FiguresLaws.{numbers_all, number_more}
use Rattle.event_choice.proofs.indexed.taken_from.Goals as goal

pub loop-t-preserved : goal.loop-t-preserved
loop-t-preserved c = number_more _ c.loop-t.invariant (search rules) c.taken_at.ensures

pub returns : goal.returns
returns c = numbers_all (omega arith) c.loop-t.invariant
