use Rattle.std.proofs.Common.{arith, rules}
use Rattle.opening.proofs.EnteringLaws.{entering_start, entering_tidy, entering_length, entering_asleep, entering_more, entering_end}
use Rattle.opening.proofs.entering.enter_all.Goals as goal

pub woken_by-woken-requires : goal.woken_by-woken-requires
woken_by-woken-requires c = c.requires.1

pub loop-t-init : goal.loop-t-init
loop-t-init c = entering_start _ _ _ c.requires.0 _ _ c.requires.1 c.woken_by-woken.ensures

pub enter_track-requires : goal.enter_track-requires
enter_track-requires c =
    let w = c.woken_by-woken.ensures in
    let i = c.loop-t.invariant in
    let e = c.loop-t.auto.t-end in
    (entering_tidy _ _ _ c.requires.0 _ _ c.requires.1 w _ e i, search rules, entering_asleep _ _ _ c.requires.0 _ _ c.requires.1 w _ e i (omega arith) c.requires.2)

pub loop-t-preserved : goal.loop-t-preserved
loop-t-preserved c =
    entering_more _ _ _ c.requires.0 _ _ c.requires.1 c.woken_by-woken.ensures _ c.loop-t.auto.t-end c.loop-t.invariant c.enter_track.ensures

pub shape_of-ledger : goal.shape_of-ledger
shape_of-ledger c =
    entering_length _ _ _ c.requires.0 _ _ c.requires.1 c.woken_by-woken.ensures _ c.loop-t.auto.t-end c.loop-t.invariant

pub returns : goal.returns
returns c =
    entering_end _ _ _ c.requires.0 _ _ c.requires.1 c.woken_by-woken.ensures _ c.loop-t.auto.t-end c.loop-t.invariant (omega arith)
