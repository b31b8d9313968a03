use Rattle.std.proofs.Common.{sym, rules}
use Rattle.largest.proofs.OnwardLaws.{read_step}
use Rattle.largest.proofs.ShowingLaws.{put_on, put_end}
use Rattle.largest.proofs.showing.put_path.Goals as goal

pub bounds-steps-end : goal.bounds-steps-end
bounds-steps-end c =
    (put_on _ _ c.args.plan.now.accepted _ c.requires.0 _ _ c.requires.2 _ _ _ _ _ c.loop-s.invariant (sym (read_step c.args.table.now c.loop-s.s)) c.loop-s-test.true).room_left

pub destination_of-s-requires : goal.destination_of-s-requires
destination_of-s-requires c =
    (put_on _ _ c.args.plan.now.accepted _ c.requires.0 _ _ c.requires.2 _ _ _ _ _ c.loop-s.invariant (sym (read_step c.args.table.now c.loop-s.s)) c.loop-s-test.true).there

pub loop-s-smaller : goal.loop-s-smaller
loop-s-smaller c =
    let k = (put_on _ _ c.args.plan.now.accepted _ c.requires.0 _ _ c.requires.2 _ _ _ _ _ c.loop-s.invariant (sym (read_step c.args.table.now c.loop-s.s)) c.loop-s-test.true).room_left in
    search rules

pub loop-s-preserved : goal.loop-s-preserved
loop-s-preserved c =
    rw c.destination_of-s.ensures
    (put_on _ _ c.args.plan.now.accepted _ c.requires.0 _ _ c.requires.2 _ _ _ _ _ c.loop-s.invariant (sym (read_step c.args.table.now c.loop-s.s)) c.loop-s-test.true).on

pub returns : goal.returns
returns c =
    put_end _ _ c.args.plan.now.accepted _ c.requires.0 _ _ c.requires.2 _ _ _ _ _ c.loop-s.invariant (sym (read_step c.args.table.now c.loop-s.s)) c.loop-s-test.false
