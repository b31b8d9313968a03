-- What an event will do, read off the ledger before the call and the moves that are made. Assumes nothing.
use Rattle.std.specs.Prelude.{◌≡◌, Bool, false, cond, not, ◌&&◌, ◌||◌, List, ℕ, ◌<◌, eqb, leb, ltb, length, get_or}
use Rattle.std.proofs.Math.Option.{Option, none, some}
use Rattle.rules.specs.declared.Terms.{Terms}
use Rattle.rules.specs.Names.{TrackNumber, StateNumber, TransitionNumber, EventNumber, Code, Day}
use Rattle.rules.specs.declared.Counts.{Counts}
use Rattle.rules.specs.declared.Mode.{Mode}
use Rattle.rules.specs.Fold.{some_below, every_below}
use Rattle.rules.specs.Plan.{Plan, track_count, no_state, optional, transition, transition_for, window, is_within, replacement, is_final, is_hosted_by}
use Rattle.rules.specs.Ledger.{Ledger, is_awake, is_forward}
use Rattle.rules.specs.Scope.{has_open_scope}

-- the moves that words name: a transition for each track below n, 65535 for none
unfoldable pub moves_of : List ℕ → ℕ → TrackNumber → Option TransitionNumber
moves_of ts n t = cond (ltb t n) (optional (get_or ts t 0)) none

-- each transition is one of the plan's
pub record InRange (c : Counts) (ts : List ℕ) : Type 0 where
  pub low : (t : ℕ) → t < c.tracks → (get_or ts t 0 ≡ no_state → ⊥) → get_or ts t 0 < c.transitions

-- the event's transition is the track's: it is forward in the source, without an open scope
unfoldable pub is_taken : Plan → Ledger → EventNumber → TransitionNumber → TrackNumber → Bool
is_taken p l event x t =
    is_forward (l t).mode && not (has_open_scope p l t) && (eqb (transition p x).source (l t).state && eqb (transition p x).event event)

-- the transition that a track takes for an event on any day and for any society, windows and rights left aside
unfoldable pub any_day_move : Plan → Ledger → EventNumber → TrackNumber → Option TransitionNumber
any_day_move p l event t = cond (is_forward (l t).mode && not (has_open_scope p l t)) (transition_for p (l t).state event) none

-- for each transition that there can be whether one of the windows below n shuts it on a day
pub record Shut (p : Plan) (day : Day) (n : ℕ) (ms : List Bool) : Type 0 where
  pub size : length ms ≡ 256
  pub at : (x : ℕ) → x < 256 → get_or ms x false ≡ some_below n (λ w. eqb (window p w).transition x && not (is_within (window p w) day))

-- the state after a move, if there is one
unfoldable pub next_of : Plan → StateNumber → Option TransitionNumber → StateNumber
next_of p s none = s
next_of p s (some x) = (transition p x).destination

-- a track in this mode and state will be forward in a final state
unfoldable pub ends_by : Plan → Mode → StateNumber → Option TransitionNumber → Bool
ends_by p m s o = is_forward m && is_final p (next_of p s o)

-- the code that a track is given: its transition's, or the replacement if its scope closes; 0 for none
unfoldable pub code_by : Plan → StateNumber → Option TransitionNumber → Bool → Code
code_by p s none closes = cond closes (replacement p s) 0
code_by p s (some x) closes = (transition p x).code

-- the move, if there is one, leads to a final state
unfoldable pub is_last : Plan → Option ℕ → Bool
is_last p none = false
is_last p (some x) = is_final p (transition p x).destination

module _ (p : Plan) (l : Ledger) (goes : ℕ → Option ℕ) where
  unfoldable pub ends_next : ℕ → Bool
  ends_next t = ends_by p (l t).mode (l t).state (goes t)

  -- the track has an open scope, and every awake track there will be forward in a final state
  unfoldable pub closes_next : ℕ → Bool
  closes_next t = has_open_scope p l t && every_below (track_count p) (λ u. not (is_hosted_by p t u && is_awake (l u).mode) || ends_next u)

  -- a track that is given a code holds as many entries as it can
  unfoldable pub full_next : Terms → ℕ → Bool
  full_next terms t = leb terms.limit (length (l t).held) && not (eqb (code_by p (l t).state (goes t) (closes_next t)) 0)
