-- No code, or the count against the limit. Assumes nothing.
use Rattle.event_choice.proofs.Visits.{fills_zero, fills_full}
use Rattle.event_choice.proofs.judging.overfills.Goals as goal

pub returns-then-code_of-eq0 : goal.returns-then-code_of-eq0
returns-then-code_of-eq0 c = fills_zero c.args.terms _ _ c.code_of.ensures _ c.if-code_of-eq0.true

pub returns : goal.returns
returns c = fills_full _ _ _ c.code_of.ensures c.if-code_of-eq0.false _ c.track-k.ensures
