-- Figures that the reader keeps for each track or state, each by one pass over the records. Assumes nothing.
use Rattle.std.specs.Prelude.{◌≡◌, Bool, true, false, ◌&&◌, List, ℕ, suc, ◌<◌, ◌≤◌, get_or}
use Rattle.std.proofs.Math.Option.{none, some}
use Rattle.rules.specs.Names.{Bytes}
use Rattle.rules.specs.declared.Counts.{Counts}
use Rattle.rules.specs.Fold.{some_below, first_below, tabulate}
use Rattle.rules.specs.Plan.{Plan, plan_of, no_state, is_state_of, is_in, is_hosting}
use Rattle.rules.specs.Acceptance.{bad_host}
use Rattle.plan.specs.Holds.{Holds}

-- a figure for each of the 32 tracks and for each of the 128 states that there can be
abbrev pub slots : ℕ
slots = 32

abbrev pub state_slots : ℕ
state_slots = 128

module _ (p : Plan) where
  -- a track's first state among those below n, 65535 where it has none
  unfoldable pub first_among : ℕ → ℕ → ℕ
  first_among n t = elim (first_below n (is_state_of p t)) [ none ↦ no_state | some s ↦ s ]

  -- for each track its first state among those below n
  unfoldable pub first_marks : ℕ → List ℕ
  first_marks n = tabulate slots (first_among n)

  -- s is a state of the track t that hosts a track
  unfoldable pub is_host_of : ℕ → ℕ → Bool
  is_host_of t s = is_state_of p t s && is_hosting p s

-- y is one more than the last number below n that passes the test, 0 where none does
pub record Last (n : ℕ) (f : ℕ → Bool) (y : ℕ) : Type 0 where
  pub within : y ≤ n
  pub passes : (k : ℕ) → y ≡ suc k → f k ≡ true
  pub none_after : (k : ℕ) → y ≤ k → k < n → f k ≡ false

-- of the numbers below n the last one of each owner
pub record Ends (is_of : ℕ → ℕ → Bool) (owners n : ℕ) (last : List ℕ) : Type 0 where
  pub at : (a : ℕ) → a < owners → Last n (is_of a) (get_or last a 0)

-- the numbers below n chained by whose they are: the last one of each owner, and before each one the one before it of the same owner
pub record Chains (is_of : ℕ → ℕ → Bool) (owners n : ℕ) (last before : List ℕ) : Type 0 where
  pub ends : Ends is_of owners n last
  pub links : (a k : ℕ) → k < n → is_of a k ≡ true → Last k (is_of a) (get_or before k 0)

-- a plan's forest in chains, where every host is a state of a lower-numbered track: the tracks of each scope, the hosting states of each track
pub record Forest (bs : Bytes) (c : Counts) (scopes beside hosts earlier : List ℕ) : Type 0 where
  pub holds : Holds bs c
  pub hosted : some_below c.tracks (bad_host (plan_of bs c)) ≡ false
  pub tracks : Chains (is_in (plan_of bs c)) state_slots c.tracks scopes beside
  pub states : Chains (is_host_of (plan_of bs c)) slots c.states hosts earlier
