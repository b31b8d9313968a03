-- Each test that fails leaves the transition to none; the last leaves it to its own track. Assumes nothing.
use Rattle.std.proofs.Common.{sym, ◌∙◌, arith}
use Rattle.rules.specs.Plan.{no_state}
use Rattle.event_choice.proofs.Visits.{source_low, mover_low}
use Rattle.event_choice.proofs.Takers.{other_event, open_takes_not, other_source, not_forward, takes}
use Rattle.event_choice.proofs.moving.taker.Goals as goal

pub returns-then-event_of-event : goal.returns-then-event_of-event
unfolding no_state
returns-then-event_of-event c = other_event _ _ _ _ c.requires.0 _ _ c.event_of.ensures c.if-event_of-event.true

pub track_of-u-requires : goal.track_of-u-requires
track_of-u-requires c =
    source_low _ _ c.requires.0.checked.lent.accepts c.requires.1 c.source_of-s.ensures

pub bounds-opens-t : goal.bounds-opens-t
bounds-opens-t c =
    let b = mover_low _ _ c.requires.0.checked.lent.accepts c.requires.1 c.source_of-s.ensures c.track_of-u.ensures in
    let n = c.requires.0.checked.lent.room.few in
    omega arith

pub returns-then-opens-t : goal.returns-then-opens-t
unfolding no_state
returns-then-opens-t c =
    let b = mover_low _ _ c.requires.0.checked.lent.accepts c.requires.1 c.source_of-s.ensures c.track_of-u.ensures in
    open_takes_not _ _ _ _ c.requires.0 _ _ c.event_of.ensures c.if-event_of-event.false
    c.source_of-s.ensures c.track_of-u.ensures (sym (c.requires.2.at _ b) ∙ c.if-opens-t.true)

pub track-k-requires : goal.track-k-requires
track-k-requires c =
    (c.requires.0.checked.lent.room, mover_low _ _ c.requires.0.checked.lent.accepts c.requires.1 c.source_of-s.ensures c.track_of-u.ensures)

pub returns-then-s-k : goal.returns-then-s-k
unfolding no_state
returns-then-s-k c =
    other_source _ _ _ _ c.requires.0 _ _ c.event_of.ensures c.if-event_of-event.false
    c.source_of-s.ensures c.track_of-u.ensures c.track-k.ensures c.if-s-k.true

pub returns-then-not-is_forward : goal.returns-then-not-is_forward
unfolding no_state
returns-then-not-is_forward c =
    not_forward _ _ _ _ c.requires.0 _ _ c.event_of.ensures c.if-event_of-event.false
    c.source_of-s.ensures c.track_of-u.ensures c.track-k.ensures
    c.is_forward.ensures c.if-not-is_forward.true

pub returns : goal.returns
unfolding no_state
returns c =
    let src = c.source_of-s.ensures in
    let own = c.track_of-u.ensures in
    let b = mover_low _ _ c.requires.0.checked.lent.accepts c.requires.1 src own in
    takes _ _ _ _ c.requires.0 _ _ c.event_of.ensures c.if-event_of-event.false src own
    c.track-k.ensures c.is_forward.ensures c.if-not-is_forward.false
    (sym (c.requires.2.at _ b) ∙ c.if-opens-t.false) c.if-s-k.false c.requires.1
