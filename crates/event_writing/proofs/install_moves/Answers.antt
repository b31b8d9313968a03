use Rattle.std.proofs.Common.{arith}
use Rattle.rules.specs.Plan.{no_state}
use Rattle.lookup.proofs.FiguresLaws.{numbers_empty, number_more, numbers_all}
use Rattle.lookup.proofs.OneTrackLaws.{pass_orderly, pass_length, pass_end}
use Rattle.event_writing.proofs.InstallingPass.{installing_start, installing_fits, installing_to, installing_room, installing_more}
use Rattle.event_writing.proofs.install_moves.Goals as goal

pub loop-t-init : goal.loop-t-init
unfolding no_state
loop-t-init c = (installing_start _ _ _ c.requires.0 _ _ c.requires.2, numbers_empty _ _)

pub install_move-requires : goal.install_move-requires
unfolding no_state
install_move-requires c =
    let i = c.loop-t.invariant in
    let b = c.loop-t-test.true in
    let f = installing_fits _ _ _ c.requires.0 _ _ c.requires.2 in
    (pass_orderly _ _ _ c.requires.0 _ f _ c.loop-t.auto.t-end i.0, b, c.requires.1.low _ b, installing_room _ _ _ c.requires.0 _ _ c.requires.2 _ b i.0)

pub loop-t-preserved : goal.loop-t-preserved
loop-t-preserved c =
    let i = c.loop-t.invariant in
    let b = c.loop-t-test.true in
    let n = c.requires.0.room.few in
    let s = c.install_move.ensures in (
      installing_more _ _ _ c.requires.0 _ _ c.requires.2 _ b i.0 s.0,
      number_more _ i.1 (omega arith) (installing_to _ _ _ c.requires.0 _ _ c.requires.2 _ _ b s.1),
    )

pub shape_of-ledger : goal.shape_of-ledger
shape_of-ledger c =
    pass_length _ _ _ c.requires.0 _ (installing_fits _ _ _ c.requires.0 _ _ c.requires.2) _ c.loop-t.auto.t-end c.loop-t.invariant.0

pub returns : goal.returns
returns c =
    let i = c.loop-t.invariant in
    (pass_end _ _ _ c.requires.0 _ (installing_fits _ _ _ c.requires.0 _ _ c.requires.2) _ c.loop-t.auto.t-end i.0 (omega arith), numbers_all (omega arith) i.1)
