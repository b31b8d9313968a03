-- Firing (the report's COMP and DEV), and the tracks that may be fired. Assumes nothing.
use Rattle.std.specs.Prelude.{Bool, cond, not, ◌&&◌, List, [], ◌∷◌, ℕ, ◌^◌, ltb, eqb}
use Rattle.std.proofs.Math.Option.{Option, none}
use Rattle.rules.specs.Names.{TrackNumber, StateNumber, Society}
use Rattle.rules.specs.Fold.{sum_below, first_below}
use Rattle.rules.specs.Plan.{Plan, track_count, no_state, optional}
use Rattle.rules.specs.Rights.{fire_right, is_permitted}
use Rattle.rules.specs.Ledger.{Entry, Ledger, is_undoing, is_empty}
use Rattle.rules.specs.Opening.{enter}
use Rattle.rules.specs.Scope.{has_open_scope}
use Rattle.rules.specs.Finish.{finished}
use Rattle.rules.specs.Signal.{abandoned}

unfoldable pub newest : List Entry → Entry
newest [] = record { code = 0; deviation = no_state }
newest (e ∷ es) = e

unfoldable pub older : List Entry → List Entry
older [] = []
older (e ∷ es) = es

-- "Its newest entry is removed."
unfoldable pub removed : Ledger → TrackNumber → Ledger
removed l t u = cond (eqb u t) (record { mode = (l u).mode; state = (l u).state; held = older (l u).held }) (l u)

-- the state that the fired track deviates to, if it does
unfoldable pub deviates_to : Ledger → TrackNumber → TrackNumber → Option StateNumber
deviates_to l t u = cond (eqb u t) (optional (newest (l t).held).deviation) none

module _ (p : Plan) (l : Ledger) where
  -- "it must be undoing, hold an entry and have no open scope"
  unfoldable pub may_fire : TrackNumber → Bool
  may_fire t = ltb t (track_count p) && is_undoing (l t).mode && not (is_empty (l t).held) && not (has_open_scope p l t)

  -- "With a deviation other than 65535, the track goes forward in that state, entering it as above."
  unfoldable pub fired : TrackNumber → Ledger
  fired t = enter p (deviates_to l t) (removed l t)

  -- "a 32-bit number with bit n set exactly if track n may be fired"
  unfoldable pub ready : ℕ
  ready = sum_below (track_count p) (λ t. cond (may_fire t) (2 ^ t) 0)

  -- the lowest "among tracks it may fire" that may be fired
  unfoldable pub lowest_ready : Society → Option TrackNumber
  lowest_ready society = first_below (track_count p) (λ t. is_permitted p fire_right society t && may_fire t)

-- a firing, its settlings done: "after any accepted call, abandoning done"
unfoldable pub after_fire : Plan → Ledger → TrackNumber → Ledger
after_fire p l t = finished p (abandoned p (fired p l t))
