use Rattle.std.proofs.Common.{arith, refl}
use Rattle.rules.specs.Plan.{no_state}
use Rattle.lookup.proofs.Facts.{host_track_low}
use Rattle.withdrawal.proofs.AbandoningLaws.{climb_low, climb_busy, climb_root, climb_lower, climb_some, climb_more, climb_due, climb_on}
use Rattle.withdrawal.proofs.abandoning.+climb.Goals as goal

pub is_taken_back-requires : goal.is_taken_back-requires
is_taken_back-requires t c = (c.requires.0.room, climb_low _ _ _ c.args.plan.now.accepted _ c.requires.0 _ _ c.requires.1)

pub returns-then-not-is_taken_back : goal.returns-then-not-is_taken_back
returns-then-not-is_taken_back t c = climb_busy _ _ _ c.args.plan.now.accepted _ c.requires.0 _ _ c.requires.1 c.is_taken_back.ensures c.if-not-is_taken_back.true

pub host_track-up-requires : goal.host_track-up-requires
host_track-up-requires t c = climb_low _ _ _ c.args.plan.now.accepted _ c.requires.0 _ _ c.requires.1

pub returns-then-up : goal.returns-then-up
unfolding no_state
returns-then-up t c = climb_root _ _ _ c.args.plan.now.accepted _ c.requires.0 _ _ c.requires.1 c.is_taken_back.ensures c.if-not-is_taken_back.false c.host_track-up.ensures c.if-up.true

pub bounds-next-at : goal.bounds-next-at
unfolding no_state
bounds-next-at t c =
    let b = host_track_low _ _ _ _ c.args.plan.now.accepted c.host_track-up.ensures c.if-up.false in
    let n = c.args.plan.now.accepted.holds.tracks in
    omega arith

pub overflow_sub-count : goal.overflow_sub-count
unfolding no_state
overflow_sub-count t c =
    let b = climb_some _ _ _ c.args.plan.now.accepted _ c.requires.0 _ _ c.requires.1 c.is_taken_back.ensures c.if-not-is_taken_back.false c.host_track-up.ensures c.if-up.false in
    omega arith

pub bounds-next-at-2 : goal.bounds-next-at-2
unfolding no_state
bounds-next-at-2 t c =
    let b = host_track_low _ _ _ _ c.args.plan.now.accepted c.host_track-up.ensures c.if-up.false in
    let n = c.args.plan.now.accepted.holds.tracks in
    omega arith

pub returns-then-count-ne0 : goal.returns-then-count-ne0
unfolding no_state
returns-then-count-ne0 t c = climb_more _ _ _ c.args.plan.now.accepted _ c.requires.0 _ _ c.requires.1 c.is_taken_back.ensures c.if-not-is_taken_back.false c.host_track-up.ensures c.if-up.false refl c.if-count-ne0.true

pub climb-requires : goal.climb-requires
unfolding no_state
climb-requires t c =
    let m = c.decreases in
    let d = climb_lower _ _ _ c.args.plan.now.accepted _ c.requires.0 _ _ c.requires.1 c.is_taken_back.ensures c.if-not-is_taken_back.false c.host_track-up.ensures c.if-up.false in
    (omega arith, (c.requires.0, climb_due _ _ _ c.args.plan.now.accepted _ c.requires.0 _ _ c.requires.1 c.is_taken_back.ensures c.if-not-is_taken_back.false c.host_track-up.ensures c.if-up.false refl c.if-count-ne0.false))

pub returns : goal.returns
unfolding no_state
returns t c = climb_on _ _ _ c.args.plan.now.accepted _ c.requires.0 _ _ c.requires.1 c.is_taken_back.ensures c.if-not-is_taken_back.false c.host_track-up.ensures c.if-up.false refl c.climb.ensures
