-- A track enters a state, is left as it is, or wakes: what wakes was asleep and holds nothing. Assumes nothing.
use Rattle.std.proofs.Common.{not, ap}
use borrow.Author.Tests.{not-true, not-false}
use Rattle.rules.specs.Plan.{no_state}
use Rattle.opening.proofs.EnteringLaws.{enter_state, enter_not, enter_first}
use Rattle.opening.proofs.entering.enter_track.Goals as goal

pub returns-then-s-ne-NO_STATE : goal.returns-then-s-ne-NO_STATE
unfolding no_state
returns-then-s-ne-NO_STATE c = enter_state _ _ _ c.requires.0 _ _ _ _ c.if-s-ne-NO_STATE.true c.put_mode.ensures

pub returns-then-not-wakes : goal.returns-then-not-wakes
unfolding no_state
returns-then-not-wakes c = enter_not _ _ _ c.requires.0 _ _ _ _ c.if-s-ne-NO_STATE.false (not-true _ (ap not c.if-not-wakes.true))

pub returns : goal.returns
unfolding no_state
returns c = let w = not-false _ (ap not c.if-not-wakes.false) in enter_first _ _ _ c.requires.0 _ _ _ _ c.if-s-ne-NO_STATE.false w (c.requires.2 w) c.put_mode-2.ensures
