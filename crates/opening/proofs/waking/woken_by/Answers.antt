use Rattle.std.proofs.Common.{arith}
use Rattle.lookup.proofs.FiguresLaws.{figure_more, figure_all}
use Rattle.opening.proofs.waking.woken_by.Goals as goal

pub loop-t-preserved : goal.loop-t-preserved
loop-t-preserved c =
    let n = c.args.plan.now.accepted.holds.tracks in
    figure_more _ _ _ _ _ c.loop-t.invariant (omega arith) c.wakes-w.ensures

pub returns : goal.returns
returns c = figure_all _ _ _ _ _ (omega arith) c.loop-t.invariant
