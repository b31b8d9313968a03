use Rattle.std.proofs.Common.{◌∙◌, arith}
use Rattle.lookup.proofs.OneTrackLaws.{pass_orderly, pass_length, pass_more, pass_end}
use Rattle.event_writing.proofs.ClosingPass.{closing_start, closing_fits, closing_needs, closing_all}
use Rattle.event_writing.proofs.close_scopes.Goals as goal

pub loop-t-init : goal.loop-t-init
loop-t-init c = closing_start _ _ _ c.args.plan.now.accepted _ c.requires.0 _ c.requires.1

pub close_track-requires : goal.close_track-requires
close_track-requires c =
    let i = c.loop-t.invariant in
    let b = c.loop-t-test.true in
    let f = closing_fits _ _ _ c.args.plan.now.accepted _ c.requires.0 _ c.requires.1 in
    (pass_orderly _ _ _ c.requires.0 _ f _ c.loop-t.auto.t-end i, b, closing_needs _ _ _ c.args.plan.now.accepted _ c.requires.0 _ c.requires.1 _ b i)

pub loop-t-preserved : goal.loop-t-preserved
loop-t-preserved c =
    let i = c.loop-t.invariant in
    let f = closing_fits _ _ _ c.args.plan.now.accepted _ c.requires.0 _ c.requires.1 in
    pass_more _ _ _ c.requires.0 _ f _ c.loop-t.auto.t-end i c.close_track.ensures

pub shape_of-ledger : goal.shape_of-ledger
shape_of-ledger c =
    pass_length _ _ _ c.requires.0 _ (closing_fits _ _ _ c.args.plan.now.accepted _ c.requires.0 _ c.requires.1) _ c.loop-t.auto.t-end c.loop-t.invariant

pub returns : goal.returns
returns c =
    pass_end _ _ _ c.requires.0 _ (closing_fits _ _ _ c.args.plan.now.accepted _ c.requires.0 _ c.requires.1) _ c.loop-t.auto.t-end c.loop-t.invariant (omega arith)
    ∙ closing_all _ _ _ c.args.plan.now.accepted _ c.requires.0 _ c.requires.1
