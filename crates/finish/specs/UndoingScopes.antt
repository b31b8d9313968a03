-- The open scopes that finish asks for: those of undoing tracks. Of a forward one it asks the state alone. Assumes nothing.
use Rattle.std.specs.Prelude.{◌≡◌, true, false, Bool, List, ℕ, ◌<◌, length, get_or}
use Rattle.rules.specs.Plan.{Plan}
use Rattle.rules.specs.Ledger.{Ledger, is_undoing}
use Rattle.rules.specs.Scope.{has_open_scope}
use Rattle.plan.specs.Passes.{slots}

-- a figure for each of the 32 tracks: of an undoing one below n, whether it has an open scope
pub record UndoingScopes (p : Plan) (l : Ledger) (n : ℕ) (opens : List Bool) : Type 0 where
  pub size : length opens ≡ slots
  pub at : (t : ℕ) → t < n → is_undoing (l t).mode ≡ true → get_or opens t false ≡ has_open_scope p l t
