-- A root has no host's track; an accepted host is a state, and its track is the one wanted. Assumes nothing.
use Rattle.rules.specs.Plan.{no_state}
use Rattle.std.proofs.Common.{◌∙◌}
use Rattle.lookup.proofs.Facts.{host_root, host_low, host_track_lem}
use Rattle.lookup.proofs.reading.host_track.Goals as goal

pub returns-then-h : goal.returns-then-h
unfolding no_state
returns-then-h c = host_root _ _ _ c.host_word-h.ensures c.if-h.true

pub track_of-requires : goal.track_of-requires
unfolding no_state
track_of-requires c = rw c.from.ensures (host_low _ _ _ _ c.args.plan.now.accepted c.host_word-h.ensures c.if-h.false)

pub returns : goal.returns
unfolding no_state
returns c = (rw c.from.ensures at c.track_of.ensures) ∙ host_track_lem _ _ _ c.host_word-h.ensures c.if-h.false
