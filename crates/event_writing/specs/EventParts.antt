-- Movers that have room, and closings: what the two writing passes of an event need, and one track's closing. Assumes nothing.
use Rattle.std.specs.Prelude.{◌≡◌, Bool, true, false, cond, ◌&&◌, List, ℕ, ◌<◌, length, get_or}
use Rattle.std.proofs.Math.Option.{Option, none, some}
use Rattle.rules.specs.declared.Terms.{Terms}
use Rattle.rules.specs.Plan.{Plan, track_count, state_count, no_state, host, owner, replacement}
use Rattle.rules.specs.Ledger.{Configuration, Ledger, is_awake, sleeping}
use Rattle.rules.specs.Event.{installed, has_code, closes_scope, is_replaced}
use Rattle.lookup.specs.Figures.{Figures}

-- every mover is awake, and has room for its entry
pub record Movers (terms : Terms) (p : Plan) (l : Ledger) (goes : ℕ → Option ℕ) : Type 0 where
  pub awake : (t x : ℕ) → goes t ≡ some x → is_awake (l t).mode ≡ true
  pub room : (t : ℕ) → has_code p (goes t) ≡ true → length (l t).held < terms.limit

-- the marked tracks are those whose scope closes, and have room for the replacement; an awake track's host's track is in the hosting state
pub record Closings (terms : Terms) (p : Plan) (l : Ledger) (ms : List Bool) : Type 0 where
  pub marks : Figures false ms (track_count p) (closes_scope p l)
  pub state : (t : ℕ) → t < track_count p → closes_scope p l t ≡ true → (l t).state < state_count p
  pub room : (t : ℕ) → t < track_count p → is_replaced p l t ≡ true → length (l t).held < terms.limit
  pub hosting : (t h : ℕ) → host p t ≡ some h → is_awake (l t).mode ≡ true → (is_awake (l (owner p h)).mode ≡ true) × ((l (owner p h)).state ≡ h)

-- a track in this mode is in a scope of a marked track
unfoldable pub is_closed_by : Plan → List Bool → ℕ → Bool → Bool
is_closed_by p ms t awake = elim (host p t) [ none ↦ false | some h ↦ awake && get_or ms (owner p h) false ]

-- it goes to sleep, or is given the replacement of its own scope, or is left as it is
unfoldable pub closed_by : Plan → List Bool → ℕ → Configuration → Configuration
closed_by p ms t x =
    cond (is_closed_by p ms t (is_awake x.mode)) sleeping (cond (get_or ms t false) (installed (replacement p x.state) no_state x) x)
