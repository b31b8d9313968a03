-- A sound ledger: one named part for each clause of the paper. Assumes nothing.
use Rattle.std.specs.Prelude.{Bool, true, not, ◌&&◌, ◌||◌, List, [], ◌∷◌, ℕ, ◌+◌, ◌*◌, get_or, leb, ltb, eqb}
use Rattle.std.proofs.Math.Option.{none, some}
use Rattle.rules.specs.Names.{Words, Place, TrackNumber, StateNumber}
use Rattle.rules.specs.declared.Mode.{Mode}
use Rattle.rules.specs.declared.Mode.TheVariants.{Asleep, Forward, Undoing}
use Rattle.rules.specs.declared.Terms.{Terms}
use Rattle.rules.specs.Fold.{some_below, every_below}
use Rattle.rules.specs.Day.{is_day}
use Rattle.rules.specs.Layout.{head_words, count_place, entry_width, track_width, track_place}
use Rattle.rules.specs.Leading.{last_day}
use Rattle.rules.specs.Plan.{Plan, track_count, state_count, no_state, host, owner, is_root, is_state_of, is_final, every_in}
use Rattle.rules.specs.Ledger.{Entry, Ledger, is_awake, is_forward, is_undoing, ledger_at}
use Rattle.rules.specs.Scope.{is_over}
use Rattle.rules.specs.Event.{is_closing}
use Rattle.rules.specs.Finish.{is_finishing}
use Rattle.rules.specs.Signal.{is_abandoning}

-- "its words are as just described", of the track whose words start at a place
-- "mode (0 asleep, 1 forward, 2 undoing)"
unfoldable pub good_mode : Words → Place → Bool
good_mode ws at = leb (get_or ws at 0) 2

module _ (terms : Terms) (ws : Words) (at : Place) where
  -- "count of entries held (0 to 32)"; "the count .. read the caller's own limit"
  unfoldable pub good_count : Bool
  good_count = leb (get_or ws (count_place at) 0) terms.limit

  -- "unused pairs zero"
  unfoldable pub unused_zero : Bool
  unused_zero =
      every_below (entry_width * terms.limit)
      (λ j. ltb j (entry_width * get_or ws (count_place at) 0) || eqb (get_or ws (at + head_words + j) 0) 0)

  -- "An asleep track is all zeros."
  unfoldable pub asleep_zero : Bool
  asleep_zero = not (eqb (get_or ws at 0) 0) || every_below (track_width terms) (λ j. eqb (get_or ws (at + j) 0) 0)

  unfoldable pub is_tidy : Bool
  is_tidy = good_mode ws at && good_count && unused_zero && asleep_zero

unfoldable pub are_tidy : Terms → Words → ℕ → Bool
are_tidy terms ws tracks = every_below tracks (λ t. is_tidy terms ws (track_place terms t))

unfoldable pub every_held : (Entry → Bool) → List Entry → Bool
every_held f [] = true
every_held f (e ∷ es) = f e && every_held f es

unfoldable pub same_mode : Mode → Mode → Bool
same_mode Asleep m = not (is_awake m)
same_mode Forward m = is_forward m
same_mode Undoing m = is_undoing m

-- "a deviation held is 65535, or, in a root, a non-final state of that root"
unfoldable pub good_deviation : Plan → TrackNumber → StateNumber → Bool
good_deviation p t d = eqb d no_state || (is_root p t && is_state_of p t d && not (is_final p d))

module _ (p : Plan) (l : Ledger) where
  -- "every root is awake"
  unfoldable pub roots_awake : Bool
  roots_awake = every_below (track_count p) (λ t. not (is_root p t) || is_awake (l t).mode)

  -- "every awake track's state is its own"
  unfoldable pub states_own : Bool
  states_own = every_below (track_count p) (λ t. not (is_awake (l t).mode) || is_state_of p t (l t).state)

  -- "codes held are not 0"
  unfoldable pub codes_real : Bool
  codes_real = every_below (track_count p) (λ t. every_held (λ e. not (eqb e.code 0)) (l t).held)

  unfoldable pub deviations_good : Bool
  deviations_good = every_below (track_count p) (λ t. every_held (λ e. good_deviation p t e.deviation) (l t).held)

  -- "a scope is awake as a whole or asleep as a whole"
  unfoldable pub is_whole : StateNumber → Bool
  is_whole s = every_in p s (λ t. is_awake (l t).mode) || every_in p s (λ t. not (is_awake (l t).mode))

  unfoldable pub scopes_whole : Bool
  scopes_whole = every_below (state_count p) is_whole

  -- "an awake one's host is awake in that hosting state and in the same mode"
  unfoldable pub is_hosted_well : TrackNumber → Bool
  is_hosted_well t =
      elim (host p t) [
        | none ↦ true
        | some h ↦ not (is_awake (l t).mode) || (eqb (l (owner p h)).state h && same_mode (l (owner p h)).mode (l t).mode)
      ]

  unfoldable pub hosts_awake : Bool
  hosts_awake = every_below (track_count p) is_hosted_well

  -- "none of the three settlings below is left to do"
  unfoldable pub closing_done : Bool
  closing_done = not (some_below (state_count p) (is_closing p l))

  unfoldable pub finish_done : Bool
  finish_done = not (is_finishing p l)

  unfoldable pub abandoning_done : Bool
  abandoning_done = not (some_below (state_count p) (is_abandoning p l))

  -- all clauses of a ledger that is not over
  unfoldable pub is_live : Bool
  is_live =
      roots_awake && states_own && codes_real && deviations_good && scopes_whole && hosts_awake
      && closing_done && finish_done && abandoning_done

-- "A ledger is sound if its words are as just described and it is all asleep ("over"), or: ..", and "soundness asks a day in range"
unfoldable pub is_sound : Terms → Plan → Words → Bool
is_sound terms p ws =
    is_day (last_day ws)
    && are_tidy terms ws (track_count p)
    && (is_over p (ledger_at terms ws (track_count p)) || is_live p (ledger_at terms ws (track_count p)))
