use Rattle.std.proofs.Common.{arith}
use Rattle.lookup.proofs.FiguresLaws.{numbers_all, number_more}
use Rattle.signed.proofs.Integers.{read_back}
use Rattle.event_choice.proofs.DayMoves.{numbers_on, all_left, left_at}
use Rattle.event_choice.proofs.windows.taken_on.Goals as goal

pub returns-then-plan-eq0 : goal.returns-then-plan-eq0
returns-then-plan-eq0 c = all_left _ _ _ _ c.if-plan-eq0.true c.requires.1

pub unless_shut-requires : goal.unless_shut-requires
unless_shut-requires c =
    (c.shut_on-shut.ensures, λ n. c.requires.0.low _ c.loop-t-test.true n)

pub loop-t-preserved : goal.loop-t-preserved
loop-t-preserved c =
    number_more _ c.loop-t.invariant (omega (arith, c.args.plan.now.accepted.holds.tracks)) (left_at _ _ _ _ _ _ c.loop-t-test.true c.unless_shut.ensures)

pub returns : goal.returns
returns c = numbers_on _ _ (read_back _ c.ranges.day.sfits) (numbers_all (omega arith) c.loop-t.invariant)
