-- A number from its two bytes. Assumes nothing.
use Rattle.rules.specs.Record.{word}
use Rattle.std.proofs.Common.{rules}
use Rattle.plan_sum.proofs.number_at.Goals as goal

pub returns : goal.returns
unfolding word
returns c = search rules
