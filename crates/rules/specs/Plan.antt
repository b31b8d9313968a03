-- The plan that the records hold: tracks (the report's automata), states, transitions, windows and grants (the paper's rights records), each
-- numbered from 0 in file order. Assumes nothing.
use Rattle.std.specs.Prelude.{Bool, true, false, cond, not, ◌&&◌, ◌||◌, List, ℕ, zero, suc, ◌+◌, ◌*◌, length, get_or, ltb, eqb, pos}
use Rattle.std.proofs.Math.Option.{Option, none, some}
use Rattle.std.specs.Int.Signed.{le_z}
use Rattle.rules.specs.Names.{Bytes, Place, TrackNumber, StateNumber, TransitionNumber, WindowNumber, GrantNumber, Society, EventNumber, Code, Day}
use Rattle.rules.specs.declared.Counts.{Counts}
use Rattle.rules.specs.Fold.{some_below, every_below, greatest_below, first_below, tabulate}
use Rattle.rules.specs.Record.{track_kind, state_kind, transition_kind, window_kind, grant_kind, word, day_at, length_of}

-- 65535 stands for no state: a root has no host, an entry no deviation
unfoldable pub no_state : StateNumber
no_state = 65535

unfoldable pub optional : StateNumber → Option StateNumber
optional w = cond (eqb w no_state) none (some w)

pub record State : Type 0 where
  pub track : TrackNumber
  pub final : ℕ
  pub replacement : Code

pub record Transition : Type 0 where
  pub source : StateNumber
  pub event : EventNumber
  pub code : Code
  pub deviation : StateNumber
  pub destination : StateNumber

pub record Window : Type 0 where
  pub transition : TransitionNumber
  pub first : Day
  pub last : Day

-- "gives rights over a root and everything under it", "rights as a sum of 1 move, 2 signal, 4 fire"
pub record Grant : Type 0 where
  pub society : Society
  pub root : TrackNumber
  pub rights : ℕ

pub record Plan : Type 0 where
  pub hosts : List StateNumber
  pub states : List State
  pub transitions : List Transition
  pub windows : List Window
  pub grants : List Grant

-- where the record of a track, a state, a transition, a window and a grant starts: kinds never fall, so each kind's records follow one another
unfoldable pub track_record : TrackNumber → Place
track_record t = length_of track_kind * t

unfoldable pub state_record : Counts → StateNumber → Place
state_record c s = track_record c.tracks + length_of state_kind * s

unfoldable pub transition_record : Counts → TransitionNumber → Place
transition_record c x = state_record c c.states + length_of transition_kind * x

unfoldable pub window_record : Counts → WindowNumber → Place
window_record c w = transition_record c c.transitions + length_of window_kind * w

unfoldable pub grant_record : Counts → GrantNumber → Place
grant_record c g = window_record c c.windows + length_of grant_kind * g

-- "track, final (0 or 1), replacement code (0 for none)"
unfoldable pub state_at : Bytes → Place → State
state_at bs at = record { track = word bs (at + 4); final = word bs (at + 6); replacement = word bs (at + 8) }

-- "source state, event (1 to 65535), retraction code (0 for none), deviation state (65535 for none), destination state"
unfoldable pub transition_at : Bytes → Place → Transition
transition_at bs at =
    record {
      source = word bs (at + 4);
      event = word bs (at + 6);
      code = word bs (at + 8);
      deviation = word bs (at + 10);
      destination = word bs (at + 12);
    }

-- "transition number, first day, last day"
unfoldable pub window_at : Bytes → Place → Window
window_at bs at = record { transition = word bs (at + 4); first = day_at bs (at + 6); last = day_at bs (at + 10) }

-- "society, root track, rights"
unfoldable pub grant_at : Bytes → Place → Grant
grant_at bs at = record { society = word bs (at + 4); root = word bs (at + 6); rights = word bs (at + 8) }

-- "from first to last inclusive"
unfoldable pub is_within : Window → Day → Bool
is_within w day = le_z w.first day && le_z day w.last

-- the plan in bytes that hold so many records of each kind
unfoldable pub plan_of : Bytes → Counts → Plan
plan_of bs c =
    record {
      hosts = tabulate c.tracks (λ t. word bs (track_record t + 4));
      states = tabulate c.states (λ s. state_at bs (state_record c s));
      transitions = tabulate c.transitions (λ x. transition_at bs (transition_record c x));
      windows = tabulate c.windows (λ w. window_at bs (window_record c w));
      grants = tabulate c.grants (λ g. grant_at bs (grant_record c g));
    }

module _ (p : Plan) where
  unfoldable pub track_count : ℕ
  track_count = length p.hosts

  unfoldable pub state_count : ℕ
  state_count = length p.states

  unfoldable pub transition_count : ℕ
  transition_count = length p.transitions

  unfoldable pub window_count : ℕ
  window_count = length p.windows

  unfoldable pub grant_count : ℕ
  grant_count = length p.grants

  -- the fields of a record by its number; beyond the last there is nothing
  unfoldable pub host_word : TrackNumber → StateNumber
  host_word t = get_or p.hosts t no_state

  unfoldable pub state : StateNumber → State
  state s = get_or p.states s (record { track = no_state; final = 0; replacement = 0 })

  unfoldable pub transition : TransitionNumber → Transition
  transition x = get_or p.transitions x (record { source = no_state; event = 0; code = 0; deviation = no_state; destination = no_state })

  unfoldable pub window : WindowNumber → Window
  window w = get_or p.windows w (record { transition = no_state; first = pos 0; last = pos 0 })

  unfoldable pub grant : GrantNumber → Grant
  grant g = get_or p.grants g (record { society = 0; root = no_state; rights = 0 })

  -- the state that hosts a track; a root has none
  unfoldable pub host : TrackNumber → Option StateNumber
  host t = optional (host_word t)

  -- the track of a state
  unfoldable pub owner : StateNumber → TrackNumber
  owner s = (state s).track

  unfoldable pub replacement : StateNumber → Code
  replacement s = (state s).replacement

  unfoldable pub is_root : TrackNumber → Bool
  is_root t = elim (host t) [ none ↦ true | some h ↦ false ]

  -- s is a state of the track t
  unfoldable pub is_state_of : TrackNumber → StateNumber → Bool
  is_state_of t s = ltb s state_count && eqb (owner s) t

  unfoldable pub is_final : StateNumber → Bool
  is_final s = not (eqb (state s).final 0)

  -- "A scope is a hosting state's set of tracks": t is in the scope of s
  unfoldable pub is_in : StateNumber → TrackNumber → Bool
  is_in s t = elim (host t) [ none ↦ false | some h ↦ eqb h s ]

  -- t is in the scope of some state of the track u: u hosts t
  unfoldable pub is_hosted_by : TrackNumber → TrackNumber → Bool
  is_hosted_by u t = elim (host t) [ none ↦ false | some h ↦ eqb (owner h) u ]

  -- the state hosts some track
  unfoldable pub is_hosting : StateNumber → Bool
  is_hosting s = some_below track_count (is_in s)

  -- every track in the scope of s passes the test; some track does
  unfoldable pub every_in : StateNumber → (TrackNumber → Bool) → Bool
  every_in s f = every_below track_count (λ t. not (is_in s t) || f t)

  unfoldable pub some_in : StateNumber → (TrackNumber → Bool) → Bool
  some_in s f = some_below track_count (λ t. is_in s t && f t)

  -- "A track starts in its lowest-numbered state"
  unfoldable pub first : TrackNumber → Option StateNumber
  first t = first_below state_count (is_state_of t)

  unfoldable pub first_state : TrackNumber → StateNumber
  first_state t = elim (first t) [ none ↦ no_state | some s ↦ s ]

  -- the transition of a state for an event
  unfoldable pub transition_for : StateNumber → EventNumber → Option TransitionNumber
  transition_for s event = first_below transition_count (λ x. eqb (transition x).source s && eqb (transition x).event event)

  -- a window record "restricts a transition to days from first to last inclusive": the transition may be taken on a day
  unfoldable pub may_take : Day → TransitionNumber → Bool
  may_take day x = every_below window_count (λ w. not (eqb (window w).transition x) || is_within (window w) day)

  -- "outside, that track ignores the event": the transition, if there is one and it may be taken on the day
  unfoldable pub taken_on : Day → Option TransitionNumber → Option TransitionNumber
  taken_on day none = none
  taken_on day (some x) = cond (may_take day x) (some x) none

  -- the track that a transition moves
  unfoldable pub mover : TransitionNumber → TrackNumber
  mover x = owner (transition x).source

  -- "A state's reach is the greatest height of the tracks it hosts, 0 where it hosts none", given those heights
  unfoldable pub reach_by : (TrackNumber → ℕ) → StateNumber → ℕ
  reach_by heights s = greatest_below track_count (λ t. let h : ℕ = heights t in cond (is_in s t) h 0)

  -- "a track's height is one more than the greatest reach of its states", as far as n levels show it
  unfoldable pub height_to : ℕ → TrackNumber → ℕ
  height_to zero t = 0
  height_to (suc n) t = suc (greatest_below state_count (λ s. let r : ℕ = reach_by (height_to n) s in cond (is_state_of t s) r 0))

  -- a hosted track's number is above its host's, so as many levels as tracks show it whole
  unfoldable pub height : TrackNumber → ℕ
  height t = height_to track_count t

  -- What holds going up from a track to its host's track and on: `step t h r` says it of track t with host h, where r says it of h's
  -- track; of a root it does not hold. A host's track has a lower number, so a track's number bounds the levels
  unfoldable pub climb_to : ℕ → (TrackNumber → StateNumber → Bool → Bool) → TrackNumber → Bool
  climb_to zero step t = false
  climb_to (suc n) step t = elim (host t) [ none ↦ false | some h ↦ step t h (climb_to n step (owner h)) ]

  unfoldable pub climb : (TrackNumber → StateNumber → Bool → Bool) → TrackNumber → Bool
  climb step t = climb_to (suc t) step t

  -- "of its tracks and of everything hosted inside it": t is inside the scope of s, at any remove
  unfoldable pub is_inside : StateNumber → TrackNumber → Bool
  is_inside s = climb (λ t h r. eqb h s || r)

  -- "A track hosts the tracks of its states' scopes, and at a remove those that these host": u hosts t, at any remove
  unfoldable pub is_above : TrackNumber → TrackNumber → Bool
  is_above u = climb (λ t h r. eqb (owner h) u || r)

  -- the root that a track stands under, itself if it is one, by climbing from host to host as far as n levels show it
  unfoldable pub root_to : ℕ → TrackNumber → TrackNumber
  root_to zero t = t
  root_to (suc n) t = elim (host t) [ none ↦ t | some h ↦ root_to n (owner h) ]

  unfoldable pub root_of : TrackNumber → TrackNumber
  root_of t = root_to (suc t) t
