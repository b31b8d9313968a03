-- Nine levels decide whether the height exceeds 8. Assumes nothing.
use Rattle.plan.proofs.ForestLaws.{levels_decide}
use Rattle.std.proofs.Common.{rules}
use Rattle.plan_reader.proofs.heights.too_high.Goals as goal

pub returns : goal.returns
returns c = rw c.height.ensures (levels_decide _ _ c.requires.0.holds c.requires.0.hosted _ (search rules))
