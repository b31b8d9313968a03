-- It sleeps, stays, or is given the replacement. Assumes nothing.
use Rattle.std.proofs.Common.{ap, ◌∙◌, arith}
use Rattle.rules.specs.Plan.{no_state, replacement}
use Rattle.ledger.proofs.Words.{in_room}
use Rattle.ledger.proofs.ReadTracks.{state_as}
use Rattle.event_writing.proofs.OneTrack.{put_closed, put_kept, put_replaced}
use Rattle.event_writing.proofs.close_track.Goals as goal

pub put_to_sleep-requires : goal.put_to_sleep-requires
put_to_sleep-requires c = in_room _ _ _ c.requires.0.room c.requires.1

pub returns-then-is_closed : goal.returns-then-is_closed
returns-then-is_closed c =
    put_closed _ _ _ c.requires.0 _ c.requires.1 _ _ c.track-k.ensures c.is_closed.ensures
    c.if-is_closed.true c.put_to_sleep.ensures

pub returns-then-not-closing-t : goal.returns-then-not-closing-t
returns-then-not-closing-t c =
    put_kept _ _ _ c.requires.0 _ c.requires.1 _ _ c.track-k.ensures c.is_closed.ensures c.if-is_closed.false
    c.if-not-closing-t.true

pub replacement_of-code-requires : goal.replacement_of-code-requires
replacement_of-code-requires c =
    let s = (c.requires.2 c.if-not-closing-t.false).0 in
    omega (arith, state_as _ c.track-k.ensures)

pub give-requires : goal.give-requires
give-requires c =
    let s = state_as _ c.track-k.ensures in
    (c.requires.0, c.requires.1, λ z. (c.requires.2 c.if-not-closing-t.false).1 (λ e. z (c.replacement_of-code.ensures ∙ ap (replacement _) s ∙ e)))

pub returns : goal.returns
unfolding no_state
returns c =
    put_replaced _ _ _ c.requires.0 _ c.requires.1 _ _ c.track-k.ensures
    c.is_closed.ensures c.if-is_closed.false
    c.if-not-closing-t.false c.replacement_of-code.ensures c.give.ensures
