-- Its transition's code, none, or its state's replacement. Assumes nothing.
use Rattle.std.proofs.Common.{not, ap}
use Rattle.rules.specs.Plan.{no_state}
use Rattle.event_choice.proofs.Visits.{code_moved, code_none, code_replaced}
use Rattle.event_choice.proofs.judging.code_given.Goals as goal

pub code_of-requires : goal.code_of-requires
unfolding no_state
code_of-requires c = c.requires.1 c.if-x-ne-NO_STATE.true

pub returns-then-x-ne-NO_STATE : goal.returns-then-x-ne-NO_STATE
unfolding no_state
returns-then-x-ne-NO_STATE c = code_moved _ _ _ c.if-x-ne-NO_STATE.true c.code_of.ensures

pub returns-then-not-closes : goal.returns-then-not-closes
unfolding no_state
returns-then-not-closes c = code_none _ _ _ c.if-x-ne-NO_STATE.false (ap not c.if-not-closes.true)

pub returns : goal.returns
unfolding no_state
returns c = code_replaced _ _ _ c.if-x-ne-NO_STATE.false (ap not c.if-not-closes.false) c.replacement_of.ensures
