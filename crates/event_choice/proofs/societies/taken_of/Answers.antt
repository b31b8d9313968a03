use Rattle.std.proofs.Common.{arith}
use Rattle.lookup.proofs.FiguresLaws.{numbers_all, number_more}
use Rattle.event_choice.proofs.DayMoves.{marked_at, by_marks}
use Rattle.event_choice.proofs.societies.taken_of.Goals as goal

pub loop-t-preserved : goal.loop-t-preserved
loop-t-preserved c =
    let l = c.loop-t-test.true in
    number_more _ c.loop-t.invariant (omega (arith, l, c.args.plan.now.accepted.holds.tracks))
    (marked_at c.permitted-may.result _ _ _ _ l c.if_permitted.ensures)

pub returns : goal.returns
returns c =
    by_marks _ _ _ c.permitted-may.ensures (numbers_all (omega arith) c.loop-t.invariant)
