-- By the mark. Assumes nothing.
use Rattle.std.proofs.Common.{refl, sym, ◌∙◌}
use Rattle.rules.specs.Plan.{no_state}
use Rattle.event_choice.proofs.Visits.{word_none}
use Rattle.event_choice.proofs.societies.if_permitted.Goals as goal

pub returns-then-may : goal.returns-then-may
returns-then-may c = sym (rw c.if-may.true)

pub returns-else-may : goal.returns-else-may
unfolding no_state
returns-else-may c = word_none refl ∙ sym (rw c.if-may.false)
