-- A plan that is accepted. Assumes nothing.
use Rattle.std.specs.Prelude.{◌≡◌}
use Rattle.rules.specs.Names.{Bytes}
use Rattle.rules.specs.declared.Counts.{Counts}
use Rattle.rules.specs.Acceptance.{accepted, read_plan}
use Rattle.plan.specs.Holds.{Holds}

-- the plan is accepted, with these counts
pub record Accepts (bs : Bytes) (c : Counts) : Type 0 where
  pub read : read_plan bs ≡ accepted c
  pub holds : Holds bs c
