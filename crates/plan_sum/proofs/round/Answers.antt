-- A round's numbers, each from its two bytes. Assumes nothing.
use Rattle.rules.specs.Record.{word}
use Rattle.std.proofs.Common.{rules}
use Rattle.plan_sum.proofs.round.Goals as goal

pub returns : goal.returns
unfolding word
returns c = search rules
