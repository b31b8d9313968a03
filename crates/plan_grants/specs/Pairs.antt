-- The numbers by which refusal 27 compares grants. Assumes nothing.
use Rattle.std.specs.Prelude.{◌≡◌, Bool, List, ℕ, ◌+◌, ◌*◌, ◌<◌, get_or, eqb}
use Rattle.rules.specs.Fold.{some_below}
use Rattle.rules.specs.Plan.{Plan, grant}

-- society and root of g as one number
pub record Pair (p : Plan) (g r : ℕ) : Type 0 where
  pub number : r ≡ (grant p g).society + 65536 * (grant p g).root
  pub society : (grant p g).society < 65536

-- a number is one of the first n of a list
unfoldable pub is_among : List ℕ → ℕ → ℕ → Bool
is_among l n x = some_below n (λ i. eqb (get_or l i 0) x)
