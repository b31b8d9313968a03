-- A track with room is not full; another one is if it is given a code. Assumes nothing.
use Rattle.event_choice.proofs.Visits.{not_full, full_given}
use Rattle.event_choice.proofs.judging.is_full.Goals as goal

pub returns-then-k-terms : goal.returns-then-k-terms
returns-then-k-terms c = not_full _ _ c.if-k-terms.true

pub returns : goal.returns
returns c = full_given _ c.if-k-terms.false c.code_given.ensures
