-- An event: the moves (the report's SUC), closing (NESTSUC), and then finish. Assumes nothing.
use Rattle.std.specs.Prelude.{Bool, true, false, cond, not, ◌&&◌, ◌||◌, List, ◌∷◌, ℕ, length, leb, eqb}
use Rattle.std.proofs.Math.Option.{Option, none, some}
use Rattle.rules.specs.declared.Terms.{Terms}
use Rattle.rules.specs.Names.{TrackNumber, StateNumber, TransitionNumber, EventNumber, Code, Day, Society}
use Rattle.rules.specs.Fold.{some_below, count_below}
use Rattle.rules.specs.Plan.{Plan, track_count, state_count, no_state, transition, replacement, host, every_in, transition_for, taken_on}
use Rattle.rules.specs.Rights.{move_right, is_permitted}
use Rattle.rules.specs.Ledger.{Entry, Configuration, Ledger, is_awake, is_forward, sleeping}
use Rattle.rules.specs.Opening.{enter}
use Rattle.rules.specs.Scope.{is_open, has_open_scope, is_ended}
use Rattle.rules.specs.Finish.{finished}

-- what an event is given: "Each event carries a day", and "Each event, signal and fire carries a society"
pub record EventArguments : Type 0 where
  pub event : EventNumber
  pub day : Day
  pub society : Society

-- "A code other than 0 is installed as the newest entry, with its deviation."
unfoldable pub install : Code → StateNumber → List Entry → List Entry
install code deviation held = cond (eqb code 0) held (record { code = code; deviation = deviation } ∷ held)

-- a configuration with one more entry
unfoldable pub installed : Code → StateNumber → Configuration → Configuration
installed code deviation c = record { mode = c.mode; state = c.state; held = install code deviation c.held }

unfoldable pub is_move : Option TransitionNumber → Bool
is_move none = false
is_move (some x) = true

module _ (p : Plan) where
  unfoldable pub destination_of : Option TransitionNumber → Option StateNumber
  destination_of none = none
  destination_of (some x) = some (transition p x).destination

  -- what a track that takes a transition installs
  unfoldable pub installed_by : Option TransitionNumber → Configuration → Configuration
  installed_by none c = c
  installed_by (some x) c = installed (transition p x).code (transition p x).deviation c

  -- whether the transition taken has a code
  unfoldable pub has_code : Option TransitionNumber → Bool
  has_code none = false
  has_code (some x) = not (eqb (transition p x).code 0)

  module _ (l : Ledger) where
    -- "each forward track without an open scope", of those "under roots where it has that right"
    unfoldable pub may_move : EventArguments → TrackNumber → Bool
    may_move a t = is_permitted p move_right a.society t && (is_forward (l t).mode && not (has_open_scope p l t))

    -- "takes its state's transition for that event, if it has one", on its days
    unfoldable pub move : EventArguments → TrackNumber → Option TransitionNumber
    move a t = cond (may_move a t) (taken_on p a.day (transition_for p (l t).state a.event)) none

    unfoldable pub moves : EventArguments → TrackNumber → Bool
    moves a t = is_move (move a t)

    -- "All moves are chosen on the ledger before the call": each mover installs its entry and enters its destination
    unfoldable pub moved : EventArguments → Ledger
    moved a = enter p (λ t. destination_of (move a t)) (λ t. installed_by (move a t) (l t))

    -- "an open forward scope whose tracks are all in final states": closing is due to the scope of s
    unfoldable pub is_closing : StateNumber → Bool
    is_closing s = is_open p l s && every_in p s (is_ended p l)

    -- the track is in a scope to which closing is due
    unfoldable pub is_closed : TrackNumber → Bool
    is_closed t = elim (host p t) [ none ↦ false | some h ↦ is_closing h ]

    -- closing is due to the scope of the state that the track is in
    unfoldable pub closes_scope : TrackNumber → Bool
    closes_scope t = is_awake (l t).mode && is_closing (l t).state

    -- Closing: the scope "goes to sleep, its entries are dropped, and the host installs the replacement, if not 0, with deviation 65535".
    -- A hosting state is not final and first states are not, so no closing makes another one due: one pass does all
    unfoldable pub closed : Ledger
    closed t =
        cond (is_closed t) sleeping
        (cond (closes_scope t) (installed (replacement p (l t).state) no_state (l t)) (l t))

    -- how many scopes close
    unfoldable pub closings : ℕ
    closings = count_below (state_count p) is_closing

  -- on the ledger after the moves: the track's scope closes and gives it a replacement
  unfoldable pub is_replaced : Ledger → TrackNumber → Bool
  is_replaced m t = closes_scope m t && not (eqb (replacement p (m t).state) 0)

  -- 21 "A track that the event gives an entry, even one dropped in the same call, holds 32."; "Refusal 21 .. read the caller's own limit"
  unfoldable pub is_full : Terms → Ledger → EventArguments → Bool
  is_full terms l a =
      some_below (track_count p)
      (λ t. (has_code (move l a t) || is_replaced (moved l a) t) && leb terms.limit (length (l t).held))

  -- an event, its settlings done
  unfoldable pub after_event : Ledger → EventArguments → Ledger
  after_event l a = finished p (closed (moved l a))
