-- The numbers by which refusal 15 compares and groups transitions. Assumes nothing.
use Rattle.std.specs.Prelude.{◌≡◌, ℕ, ◌+◌, ◌*◌, ◌/◌, ◌<◌}
use Rattle.rules.specs.Plan.{Plan, transition}

-- given by source and event: a number below 2048 where there are 128 sources
unfoldable pub group : Plan → ℕ → ℕ
group p x = 16 * (transition p x).source + (transition p x).event / 4096

-- source and event of x as one number
pub record Step (p : Plan) (x r : ℕ) : Type 0 where
  pub number : r ≡ (transition p x).source + 65536 * (transition p x).event
  pub source : (transition p x).source < 65536
