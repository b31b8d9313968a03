use Rattle.std.proofs.Common.{not, ap, arith}
use Rattle.signed.proofs.Integers.{read_back}
use Rattle.event_choice.proofs.DayMoves.{shut_none, shut_within, shut_outside, named_low, shut_all}
use Rattle.event_choice.proofs.windows.shut_on.Goals as goal

pub loop-w-init : goal.loop-w-init
loop-w-init c = shut_none _ _

pub bounds-shut-x : goal.bounds-shut-x
bounds-shut-x c = named_low _ _ c.args.plan.now.accepted c.loop-w-test.true c.window_transition-x.ensures

pub loop-w-preserved : goal.loop-w-preserved
loop-w-preserved c =
    let m = c.loop-w.invariant in
    elim c.if-not-is_within.branch [
      | goal.then-not-is_within v ↦ rw v.shut-is (shut_outside _ _ _ m c.is_within.ensures (ap not v.if-not-is_within.true) v.window_transition-x.ensures (named_low _ _ c.args.plan.now.accepted c.loop-w-test.true v.window_transition-x.ensures))
      | goal.else-not-is_within v ↦ rw v.shut-is (shut_within _ _ _ m c.is_within.ensures (ap not v.if-not-is_within.false))
    ]

pub returns : goal.returns
returns c = shut_all (omega arith) (read_back _ c.ranges.day.sfits) c.loop-w.invariant
