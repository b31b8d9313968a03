use Rattle.std.proofs.Common.{arith, rules}
use Rattle.withdrawal.proofs.AbandoningLaws.{leaving_start, leaving_orderly, leaving_more, leaving_end}
use Rattle.withdrawal.proofs.abandoning.leave_all.Goals as goal

pub loop-t-init : goal.loop-t-init
loop-t-init c = leaving_start _ _ _ _ c.requires.0 _ c.requires.1

pub leave_track-requires : goal.leave_track-requires
leave_track-requires c =
    let i = c.loop-t.invariant in
    (leaving_orderly _ _ _ _ c.requires.0 _ c.requires.1 _ (omega arith) i, search rules)

pub loop-t-preserved : goal.loop-t-preserved
loop-t-preserved c =
    let i = c.loop-t.invariant in
    leaving_more _ _ _ _ c.requires.0 _ c.requires.1 _ (omega arith) i c.leave_track.ensures

pub returns : goal.returns
returns c =
    let i = c.loop-t.invariant in
    (leaving_end _ _ _ _ c.requires.0 _ c.requires.1 _ (omega arith) i (omega arith), leaving_orderly _ _ _ _ c.requires.0 _ c.requires.1 _ (omega arith) i)
