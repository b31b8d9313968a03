-- A root never wakes; a hosted track by its host's track: entered, not woken, or woken in its first state. Assumes nothing.
use Rattle.std.proofs.Common.{not, ap, arith}
use borrow.Author.Tests.{not-true, not-false}
use Rattle.rules.specs.Plan.{no_state}
use Rattle.lookup.proofs.Facts.{host_low}
use Rattle.opening.proofs.WakingLaws.{host_slot, root_asleep, wakes_entered, wakes_not, wakes_first}
use Rattle.opening.proofs.waking.wakes.Goals as goal

pub returns-then-h : goal.returns-then-h
unfolding no_state
returns-then-h c = root_asleep _ _ c.args.plan.now.accepted _ _ _ c.host_word-h.ensures c.if-h.true

pub track_of-u-requires : goal.track_of-u-requires
unfolding no_state
track_of-u-requires c =
    let a = c.args.plan.now.accepted in
    host_low _ _ _ _ a c.host_word-h.ensures c.if-h.false

pub bounds-to-u : goal.bounds-to-u
unfolding no_state
bounds-to-u c =
    let a = c.args.plan.now.accepted in
    let b = host_slot _ _ a _ _ c.host_word-h.ensures c.if-h.false _ c.track_of-u.ensures in
    let n = a.holds.tracks in
    omega arith

pub returns-then-s : goal.returns-then-s
unfolding no_state
returns-then-s c = wakes_entered _ _ c.args.plan.now.accepted _ _ _ c.host_word-h.ensures c.if-h.false _ c.track_of-u.ensures c.if-s.true

pub returns-then-not-woken-u : goal.returns-then-not-woken-u
unfolding no_state
returns-then-not-woken-u c =
    wakes_not _ _ c.args.plan.now.accepted _ _ _ c.host_word-h.ensures c.if-h.false _ c.track_of-u.ensures c.if-s.false _ c.requires.2 (not-true _ (ap not c.if-not-woken-u.true))

pub returns : goal.returns
unfolding no_state
returns c =
    wakes_first _ _ c.args.plan.now.accepted _ _ _ c.host_word-h.ensures c.if-h.false _ c.track_of-u.ensures c.if-s.false _ c.requires.2 _ c.requires.0
    (not-false _ (ap not c.if-not-woken-u.false))
