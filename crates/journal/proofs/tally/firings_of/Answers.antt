-- By the answer's case. Assumes nothing.
use Rattle.rules.specs.Answers.{fire_told}
use Rattle.rules.specs.Transcript.{firings_of}
use Rattle.journal.proofs.tally.firings_of.Goals as goal

pub returns-in-Fired : goal.returns-in-Fired
unfolding fire_told firings_of
returns-in-Fired c = λ t o. rw c.in-Fired.is

pub returns-in-Refused : goal.returns-in-Refused
unfolding fire_told firings_of
returns-in-Refused c = λ t o. rw c.in-Refused.is
