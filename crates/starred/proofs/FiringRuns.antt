-- As many firings as entries held, on plan P and on a plan with two roots and two hosted tracks, in several orders and from a later point on; and for
-- each thing that is asked of the ledger a run where that alone fails and the firings are fewer. Each is proved by computing the definitions of the
-- rules. Assumes nothing.
use mathlib.Core.Path.{◌≡◌, refl}
use mathlib.Core.Bool.{Bool, true, false}
use mathlib.Core.List.{List, [], ◌∷◌, ◌++◌}
use Prim.Native.Nat.{ℕ}
use lib.IntN.{pos}
use Rattle.rules.specs.declared.Counts.{Counts}
use Rattle.rules.specs.Plan.{Plan, track_count, plan_of}
use Rattle.rules.specs.Acceptance.{accepted, read_plan}
use Rattle.rules.specs.Setting.{main_terms}
use Rattle.rules.specs.Ledger.{Ledger, ledger_at}
use Rattle.rules.specs.Fire.{ready}
use Rattle.rules.specs.Call.{Call, event, signal, fire}
use Rattle.rules.specs.ReferenceRun.{words_from, words_after, answers_from}
use Rattle.rules.specs.FiringsDue.{holds_no_deviation, none_forward, turns_every, is_order, after_order, is_firing_order, firing_calls, held_by, NoneReady}
use Rattle.starred.specs.SamplePlan.{plan_p, lent_for}
use Rattle.starred.specs.BranchingPlans.{plan_b, deviating_b, track_words}
use Rattle.starred.specs.Computing.{computing}

-- the calls of a society: an event on day 0, a signal, a firing
abbrev e : ℕ → ℕ → Call
e society n = event (record { event = n; day = pos 0; society = society })

abbrev s : ℕ → Call
s society = signal (record { society = society })

abbrev f : ℕ → ℕ → Call
f society t = fire (record { track = t; society = society })

-- the words of a track that holds one entry, forward or undoing
abbrev forward_with : ℕ → ℕ → List ℕ
forward_with state code = track_words 1 state 1 (code ∷ 65535 ∷ []) 62

abbrev undoing_with : ℕ → ℕ → List ℕ
undoing_with state code = track_words 2 state 1 (code ∷ 65535 ∷ []) 62

-- Under a plan, on these words: what is asked of the ledger, and the entries held.
module _ (bs : List ℕ) (p : Plan) (ws : List ℕ) where
  abbrev ledger : Ledger
  ledger = ledger_at main_terms ws (track_count p)

  -- that no track is forward, that no entry carries a deviation, and how many are held
  abbrev Holding : Bool → Bool → ℕ → Type 0
  Holding backward plain n = (none_forward p ledger ≡ backward) × (holds_no_deviation p ledger ≡ plain) × (held_by main_terms p ws ≡ n)

  -- the tracks fired in this order, each by this society: each firing is accepted, and ready is 0 after them
  abbrev Fired : ℕ → List ℕ → Type 0
  Fired society ts =
      (is_firing_order (firing_calls (λ t. society) ts) (answers_from main_terms bs ws (firing_calls (λ t. society) ts)) ≡ true)
      × NoneReady main_terms bs (words_from main_terms bs ws (firing_calls (λ t. society) ts))

-- Plan P, after the events of the sample, and its signal.
abbrev P : Plan
P = plan_of plan_p (record { tracks = 3; states = 8; transitions = 5; windows = 0; grants = 1 })

abbrev events_p : List ℕ
events_p = words_after main_terms plan_p (lent_for 3) (e 1 10 ∷ e 1 11 ∷ e 1 12 ∷ [])

abbrev turned_p : List ℕ
turned_p = 182 ∷ 633 ∷ 0 ∷ 0 ∷ undoing_with 1 50 ++ undoing_with 4 51 ++ undoing_with 6 52 ++ 7 ∷ 7 ∷ []

-- the signal turns every forward track and drops no entry
pub turned-P : (turns_every P 1 (ledger plan_p P events_p) ≡ true) × (held_by main_terms P events_p ≡ 3)
    × (words_from main_terms plan_p events_p (s 1 ∷ []) ≡ turned_p) × Holding plan_p P turned_p true true 3
unfolding computing
turned-P = (refl, refl, refl, (refl, refl, refl))

-- both orders have three firings
pub fired-P : Fired plan_p P turned_p 1 (1 ∷ 2 ∷ 0 ∷ []) × Fired plan_p P turned_p 1 (2 ∷ 1 ∷ 0 ∷ [])
unfolding computing
fired-P = ((refl, refl), (refl, refl))

-- rights aside: so the ledger can be fired, and so it cannot, since the root has an open scope
pub orders-P : (is_order P (ledger plan_p P turned_p) (1 ∷ 2 ∷ 0 ∷ []) ≡ true) × (ready P (after_order P (ledger plan_p P turned_p) (1 ∷ 2 ∷ 0 ∷ [])) ≡ 0)
    × (is_order P (ledger plan_p P turned_p) (1 ∷ 0 ∷ []) ≡ false)
unfolding computing
orders-P = (refl, refl, refl)

-- Two roots and two hosted tracks; the first root has ended.
abbrev counts : Counts
counts = record { tracks = 4; states = 10; transitions = 7; windows = 0; grants = 4 }

abbrev B : Plan
B = plan_of plan_b counts

abbrev D : Plan
D = plan_of deviating_b counts

pub reads-B : (read_plan plan_b ≡ accepted counts) × (read_plan deviating_b ≡ accepted counts)
unfolding computing
reads-B = (refl, refl)

abbrev events : List Call
events = e 3 1 ∷ e 3 5 ∷ e 3 6 ∷ e 3 2 ∷ []

-- the words after these, and after a signal of a society that may turn both roots
abbrev branches : List ℕ
branches = undoing_with 4 60 ++ undoing_with 7 70 ++ undoing_with 8 90 ++ 7 ∷ 7 ∷ []

abbrev turned_b : List ℕ
turned_b = 266 ∷ 887 ∷ 0 ∷ 0 ∷ track_words 2 2 2 (50 ∷ 65535 ∷ 51 ∷ 65535 ∷ []) 60 ++ branches

pub turned-B : (words_after main_terms plan_b (lent_for 4) (events ++ s 3 ∷ []) ≡ turned_b) × Holding plan_b B turned_b true true 5
unfolding computing
turned-B = (refl, (refl, refl, refl))

-- five firings, the lowest track first, the highest first, and mixed
pub fired-B : Fired plan_b B turned_b 3 (0 ∷ 0 ∷ 2 ∷ 3 ∷ 1 ∷ [])
    × Fired plan_b B turned_b 3 (3 ∷ 2 ∷ 1 ∷ 0 ∷ 0 ∷ [])
    × Fired plan_b B turned_b 3 (2 ∷ 0 ∷ 3 ∷ 1 ∷ 0 ∷ [])
unfolding computing
fired-B = ((refl, refl), (refl, refl), (refl, refl))

-- between firings an event moves nobody, a signal turns nobody, and some firings are refused: from there on as many are left as are held
abbrev between_b : List ℕ
between_b = words_from main_terms plan_b turned_b (f 3 2 ∷ e 3 6 ∷ s 1 ∷ f 3 1 ∷ f 1 3 ∷ [])

pub between-B : Holding plan_b B between_b true true 4 × Fired plan_b B between_b 3 (0 ∷ 3 ∷ 1 ∷ 0 ∷ [])
unfolding computing
between-B = ((refl, refl, refl), (refl, refl))

-- "a signal that turns every forward track": after one of society 2 the first root is forward still. It keeps its entry: four are held, three are fired
abbrev partial_b : List ℕ
partial_b = 266 ∷ 887 ∷ 0 ∷ 0 ∷ forward_with 1 50 ++ branches

pub forward_left : (words_after main_terms plan_b (lent_for 4) (e 3 1 ∷ e 3 5 ∷ e 3 6 ∷ s 2 ∷ []) ≡ partial_b)
    × Holding plan_b B partial_b false true 4 × Fired plan_b B partial_b 3 (2 ∷ 3 ∷ 1 ∷ [])
unfolding computing
forward_left = (refl, (refl, refl, refl), (refl, refl))

-- and where that root has ended, the last firing finishes, and its two entries are dropped: five are held, three are fired
abbrev ended_b : List ℕ
ended_b = 266 ∷ 887 ∷ 0 ∷ 0 ∷ track_words 1 2 2 (50 ∷ 65535 ∷ 51 ∷ 65535 ∷ []) 60 ++ branches

pub ended_left : (words_after main_terms plan_b (lent_for 4) (events ++ s 2 ∷ []) ≡ ended_b)
    × Holding plan_b B ended_b false true 5 × Fired plan_b B ended_b 3 (2 ∷ 3 ∷ 1 ∷ [])
unfolding computing
ended_left = (refl, (refl, refl, refl), (refl, refl))

-- "no entry held that carries a deviation": the first root goes forward again and keeps its older entry; five are held, four are fired
abbrev turned_d : List ℕ
turned_d = 266 ∷ 888 ∷ 0 ∷ 0 ∷ track_words 2 2 2 (50 ∷ 65535 ∷ 51 ∷ 0 ∷ []) 60 ++ branches

pub deviation_held : (words_after main_terms deviating_b (lent_for 4) (events ++ s 3 ∷ []) ≡ turned_d)
    × Holding deviating_b D turned_d true false 5 × Fired deviating_b D turned_d 3 (0 ∷ 2 ∷ 3 ∷ 1 ∷ [])
unfolding computing
deviation_held = (refl, (refl, refl, refl), (refl, refl))
