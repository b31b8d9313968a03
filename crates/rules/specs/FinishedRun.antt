-- The moves of a scope from its opening to its closing (the paper's finished run), in any list of calls: "Finished runs are those possible on
-- days that never fall", since an event on a day before the last accepted one is refused. Assumes nothing.
use Rattle.std.specs.Prelude.{◌≡◌, Bool, true, false, cond, List, [], ◌∷◌, ◌++◌, ℕ, zero, suc}
use Rattle.std.proofs.Math.Option.{Option, none, some}
use Rattle.rules.specs.Names.{TrackNumber, StateNumber, TransitionNumber, Day}
use Rattle.rules.specs.declared.Terms.{Terms}
use Rattle.rules.specs.Day.{earliest_day}
use Rattle.rules.specs.Plan.{Plan, track_count, is_inside}
use Rattle.rules.specs.Rights.{signal_right, is_permitted}
use Rattle.rules.specs.Ledger.{Ledger, is_forward}
use Rattle.rules.specs.Opening.{begun}
use Rattle.rules.specs.Scope.{is_open}
use Rattle.rules.specs.Event.{EventArguments, move, moved, is_closing}
use Rattle.rules.specs.Call.{SignalArguments, FireArguments, Call, event, signal, fire, call_refusal, next, next_day}

-- the transition taken, as a list
unfoldable pub taken : Option TransitionNumber → List TransitionNumber
taken none = []
taken (some x) = x ∷ []

module _ (p : Plan) where
  -- the transitions that an event takes of the first n tracks, in track order, of those that pass the test
  unfoldable pub moves_below : ℕ → (TrackNumber → Bool) → Ledger → EventArguments → List TransitionNumber
  moves_below zero f l a = []
  moves_below (suc n) f l a = moves_below n f l a ++ cond (f n) (taken (move p l a n)) []

  unfoldable pub moves_of : (TrackNumber → Bool) → Ledger → EventArguments → List TransitionNumber
  moves_of f l a = moves_below (track_count p) f l a

  module _ (terms : Terms) where
    -- the ledgers that lists of calls reach from a begin, each with the last accepted day
    pub data Reached : Day → Ledger → Type 0 where
      start : Reached earliest_day (begun p)
      then : {d : Day} {l : Ledger} → Reached d l → (c : Call) → Reached (next_day terms p d l c) (next terms p d l c)

    -- "from its opening": the scope of s is open on a ledger, and these are the moves inside it since it opened: at a begin or by a call,
    -- an event, a firing with a deviation. "no signal turning any of them meanwhile": one that turns none of them ends no run
    pub data Running (s : StateNumber) : Day → Ledger → List TransitionNumber → Type 0 where
      by_begin : is_open p (begun p) s ≡ true → Running s earliest_day (begun p) []
      by_call : {d : Day} {l : Ledger} → Reached d l → (c : Call) → is_open p l s ≡ false → is_open p (next terms p d l c) s ≡ true
          → Running s (next_day terms p d l c) (next terms p d l c) []
      over_event : {d : Day} {l : Ledger} {w : List ℕ} → Running s d l w → (a : EventArguments) → call_refusal terms p d l (event a) ≡ 0
          → is_open p (next terms p d l (event a)) s ≡ true
          → Running s (next_day terms p d l (event a)) (next terms p d l (event a)) (w ++ moves_of (is_inside p s) l a)
      over_signal : {d : Day} {l : Ledger} {w : List ℕ} → Running s d l w → (a : SignalArguments) → call_refusal terms p d l (signal a) ≡ 0
          → ((t : ℕ) → is_inside p s t ≡ true → is_permitted p signal_right a.society t ≡ true → is_forward (l t).mode ≡ false)
          → is_open p (next terms p d l (signal a)) s ≡ true
          → Running s (next_day terms p d l (signal a)) (next terms p d l (signal a)) w
      over_fire : {d : Day} {l : Ledger} {w : List ℕ} → Running s d l w → (a : FireArguments) → call_refusal terms p d l (fire a) ≡ 0
          → is_open p (next terms p d l (fire a)) s ≡ true
          → Running s (next_day terms p d l (fire a)) (next terms p d l (fire a)) w

    -- "to its closing": the event that closes the scope moves inside it too
    pub data Finished (s : StateNumber) : List TransitionNumber → Type 0 where
      closed : {d : Day} {l : Ledger} {w : List ℕ} → Running s d l w → (a : EventArguments) → call_refusal terms p d l (event a) ≡ 0
          → is_closing p (moved p l a) s ≡ true
          → Finished s (w ++ moves_of (is_inside p s) l a)
