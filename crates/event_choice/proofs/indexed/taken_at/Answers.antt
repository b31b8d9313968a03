-- By the tests, one after the other. Assumes nothing.
use Rattle.std.proofs.Common.{not, ap}
use Rattle.rules.specs.Plan.{no_state, optional}
use Rattle.event_choice.proofs.OneMove.{by_word, move_open, move_still, move_made}
use Rattle.event_choice.proofs.indexed.taken_at.Goals as goal

pub returns-then-opens-t : goal.returns-then-opens-t
unfolding optional no_state
returns-then-opens-t c = move_open _ _ _ _ _ (c.requires.3.at _ c.requires.1) c.if-opens-t.true

pub returns-then-not-is_forward : goal.returns-then-not-is_forward
unfolding optional no_state
returns-then-not-is_forward c = move_still _ _ _ _ _ (c.requires.3.at _ c.requires.1) _ _ c.track-k.ensures c.is_forward.ensures (ap not c.if-not-is_forward.true)

pub returns : goal.returns
unfolding no_state
returns c = move_made _ _ _ _ _ (c.requires.3.at _ c.requires.1) _ _ c.track-k.ensures c.is_forward.ensures c.if-opens-t.false (ap not c.if-not-is_forward.false) _ (rw c.unwrap_or.ensures (by_word _ _ c.requires.0.accepts _ _ _ c.transition_for.ensures))
