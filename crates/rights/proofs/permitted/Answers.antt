use Rattle.std.proofs.Common.{arith}
use Rattle.rules.specs.Plan.{no_state}
use Rattle.lookup.proofs.Facts.{host_track_low}
use Rattle.rights.proofs.Held.{marked_root, marked_hosted}
use Rattle.rights.proofs.permitted.Goals as goal

pub bounds-may-from : goal.bounds-may-from
unfolding no_state
bounds-may-from c = let p = c.args.plan.now.accepted in omega (arith, c.from.ensures, host_track_low _ _ _ _ p c.host_track-u.ensures c.if-u.true, p.holds.tracks)

pub loop-t-preserved : goal.loop-t-preserved
unfolding no_state
loop-t-preserved c =
    let m = c.loop-t.invariant in
    let p = c.args.plan.now.accepted in
    let l = c.loop-t-test.true in
    elim c.if-u.branch [
      | goal.then-u v ↦ rw (v.may-is, v.from.ensures) (marked_hosted _ _ p _ _ _ l m c.host_track-u.ensures v.if-u.true (omega (arith, l, p.holds.tracks)))
      | goal.else-u v ↦ rw v.may-is (marked_root _ _ p _ _ _ l m c.host_track-u.ensures v.if-u.false)
    ]
