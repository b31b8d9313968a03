-- Not busy, a root, or one more for the host's track. Assumes nothing.
use Rattle.std.proofs.Common.{arith}
use Rattle.rules.specs.Plan.{no_state}
use Rattle.lookup.proofs.Facts.{host_track_low}
use Rattle.withdrawal.proofs.Counted.{count_mark, count_idle, count_root, count_most, count_host}
use Rattle.withdrawal.proofs.abandoning.count_track.Goals as goal

pub is_busy-requires : goal.is_busy-requires
is_busy-requires c = (c.requires.0.room, c.requires.1, count_mark _ _ c.requires.0.accepts _ _ _ _ c.requires.2 c.requires.1)

pub returns-then-not-is_busy : goal.returns-then-not-is_busy
returns-then-not-is_busy c = count_idle _ _ c.requires.0.accepts _ _ _ _ c.requires.2 c.is_busy.ensures c.if-not-is_busy.true

pub returns-then-u : goal.returns-then-u
unfolding no_state
returns-then-u c = count_root _ _ c.requires.0.accepts _ _ _ _ c.requires.2 c.is_busy.ensures c.if-not-is_busy.false c.host_track-u.ensures c.if-u.true

pub bounds-busy-at : goal.bounds-busy-at
unfolding no_state
bounds-busy-at c = let b = host_track_low _ _ _ _ c.requires.0.accepts c.host_track-u.ensures c.if-u.false in let n = c.requires.0.accepts.holds.tracks in omega arith

pub overflow_add-busy : goal.overflow_add-busy
unfolding no_state
overflow_add-busy c =
    let n = c.requires.0.accepts.holds.tracks in
    let b = c.requires.1 in
    let d = count_most _ _ c.requires.0.accepts _ _ _ _ c.requires.2 c.is_busy.ensures c.if-not-is_busy.false c.host_track-u.ensures c.if-u.false in
    omega arith

pub bounds-busy-at-2 : goal.bounds-busy-at-2
unfolding no_state
bounds-busy-at-2 c =
    let b = host_track_low _ _ _ _ c.requires.0.accepts c.host_track-u.ensures c.if-u.false in
    let n = c.requires.0.accepts.holds.tracks in
    omega arith

pub returns : goal.returns
unfolding no_state
returns c =
    count_host _ _ c.requires.0.accepts _ _ _ _ c.requires.2 c.is_busy.ensures c.if-not-is_busy.false c.host_track-u.ensures c.if-u.false
