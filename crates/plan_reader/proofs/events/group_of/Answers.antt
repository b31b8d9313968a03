-- Source and event give the group: there are 128 sources, and 16 times 4096 events. Assumes nothing.
use Rattle.plan_reader.specs.Keys.{group}
use Rattle.std.proofs.Common.{rules}
use Rattle.plan_reader.proofs.events.group_of.Goals as goal

pub returns : goal.returns
unfolding group
returns c = search rules
