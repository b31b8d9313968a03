-- A track that deviates. Assumes nothing.
use Rattle.std.specs.Prelude.{cond, ℕ, eqb}
use Rattle.std.proofs.Math.Option.{Option, none}
use Rattle.rules.specs.Plan.{optional}

-- the track t enters the state s, 65535 for none, and no other enters any
unfoldable pub deviating : ℕ → ℕ → ℕ → Option ℕ
deviating t s u = cond (eqb u t) (optional s) none
