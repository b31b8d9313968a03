-- A word is below 65536, so the two do not run into each other. Assumes nothing.
use Rattle.rules.specs.Record.{size_at, kind_at}
use Rattle.std.proofs.Common.{rules}
use Rattle.plan_scan.proofs.runs.head_at.Goals as goal

pub returns : goal.returns
unfolding size_at kind_at
returns c = (search rules, search rules)
