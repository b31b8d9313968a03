-- A root, an asleep track, or its host's mark: the cases of the definition. Assumes nothing.
use Rattle.std.proofs.Common.{not, ap, arith}
use Rattle.rules.specs.Plan.{no_state}
use Rattle.lookup.proofs.Facts.{host_track_low}
use Rattle.event_writing.proofs.OneTrack.{closed_root, closed_asleep, closed_awake}
use Rattle.event_writing.proofs.is_closed.Goals as goal

pub returns-then-u : goal.returns-then-u
unfolding no_state
returns-then-u c = closed_root _ _ _ _ _ _ c.host_track-u.ensures c.args.plan.now.accepted c.if-u.true

pub returns-then-not-is_awake : goal.returns-then-not-is_awake
unfolding no_state
returns-then-not-is_awake c = closed_asleep _ _ _ _ _ _ c.host_track-u.ensures c.if-u.false c.is_awake.ensures (ap not c.if-not-is_awake.true)

pub bounds-closing-u : goal.bounds-closing-u
unfolding no_state
bounds-closing-u c =
    let k = host_track_low _ _ _ _ c.args.plan.now.accepted c.host_track-u.ensures c.if-u.false in
    let n = c.args.plan.now.accepted.holds.tracks in
    omega arith

pub returns : goal.returns
unfolding no_state
returns c = closed_awake _ _ _ _ _ _ c.host_track-u.ensures c.if-u.false c.is_awake.ensures (ap not c.if-not-is_awake.false)
