-- Asleep, a root and in a scope that is left open: as it is; any other goes to sleep, all its words zero. Assumes nothing.
use Rattle.std.proofs.Common.{arith}
use Rattle.rules.specs.Plan.{no_state}
use Rattle.ledger.proofs.Words.{in_room}
use Rattle.lookup.proofs.Facts.{host_track_low}
use Rattle.withdrawal.proofs.AbandoningLaws.{leave_asleep, leave_root, leave_not, leave_done}
use Rattle.withdrawal.proofs.abandoning.leave_track.Goals as goal

pub returns-then-not-is_awake : goal.returns-then-not-is_awake
returns-then-not-is_awake c = leave_asleep _ _ _ c.args.plan.now.accepted _ c.requires.0 _ _ c.is_awake.ensures c.if-not-is_awake.true

pub returns-then-u : goal.returns-then-u
unfolding no_state
returns-then-u c = leave_root _ _ _ c.args.plan.now.accepted _ c.requires.0 _ _ c.is_awake.ensures c.host_track-u.ensures c.if-u.true

pub bounds-opens-u : goal.bounds-opens-u
unfolding no_state
bounds-opens-u c = let b = host_track_low _ _ _ _ c.args.plan.now.accepted c.host_track-u.ensures c.if-u.false in let n = c.args.plan.now.accepted.holds.tracks in omega arith

pub returns-then-opens-u : goal.returns-then-opens-u
unfolding no_state
returns-then-opens-u c =
    leave_not _ _ _ c.args.plan.now.accepted _ c.requires.0 _ _ c.is_awake.ensures c.host_track-u.ensures c.if-u.false c.if-opens-u.true

pub put_to_sleep-requires : goal.put_to_sleep-requires
put_to_sleep-requires c = in_room _ _ _ c.requires.0.room c.requires.1

pub returns : goal.returns
unfolding no_state
returns c =
    leave_done _ _ _ c.args.plan.now.accepted _ c.requires.0 _ _ c.is_awake.ensures c.host_track-u.ensures c.if-u.false c.requires.1 c.if-opens-u.false c.put_to_sleep.ensures
