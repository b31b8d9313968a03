-- By the kind. Assumes nothing.
use Rattle.rules.specs.Journal.{journal_length}
use Rattle.journal.proofs.record.Kind.length.Goals as goal

pub returns-in-Signal : goal.returns-in-Signal
unfolding journal_length
returns-in-Signal c = rw c.in-Signal.is

pub returns-in-Fire : goal.returns-in-Fire
unfolding journal_length
returns-in-Fire c = rw c.in-Fire.is

pub returns-in-FireLowest : goal.returns-in-FireLowest
unfolding journal_length
returns-in-FireLowest c = rw c.in-FireLowest.is

pub returns-in-Event : goal.returns-in-Event
unfolding journal_length
returns-in-Event c = rw c.in-Event.is
