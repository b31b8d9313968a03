-- By the answer's case. Assumes nothing.
use Rattle.rules.specs.Transcript.{call_line, done_line}
use Rattle.rules.specs.Answers.{fire_told}
use Rattle.journal.proofs.lines.fire_line.Goals as goal

pub returns-in-Fired : goal.returns-in-Fired
unfolding call_line fire_told done_line
returns-in-Fired c society = rw c.in-Fired.is c.fired_line.ensures

pub returns-in-Refused : goal.returns-in-Refused
unfolding call_line fire_told
returns-in-Refused c society = rw c.in-Refused.is c.refusal_line.ensures
