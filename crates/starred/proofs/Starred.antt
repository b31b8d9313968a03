-- The starred lines of 'Runs and edges', in the paper's order, from the plan's bytes and a lent ledger's words. Each is proved by
-- computing the definitions of the rules: both sides come to the same value. Every event is on day 0, every call of society 1. They hold at
-- either setting. Assumes nothing.
use mathlib.Core.Path.{◌≡◌, refl}
use mathlib.Core.Bool.{true, false}
use mathlib.Core.List.{List, [], ◌∷◌, ◌++◌}
use Prim.Native.Nat.{ℕ}
use lib.IntN.{pos}
use Rattle.rules.specs.declared.Counts.{Counts}
use Rattle.rules.specs.Plan.{plan_of}
use Rattle.rules.specs.Acceptance.{accepted, read_plan}
use Rattle.rules.specs.declared.Limit.{Limit}
use Rattle.rules.specs.declared.Limit.TheVariants.{Main, ReadingRoom}
use Rattle.rules.specs.declared.Terms.{Terms}
use Rattle.rules.specs.Setting.{terms_of, main_terms}
use Rattle.rules.specs.Ledger.{Ledger}
use Rattle.rules.specs.Scope.{is_open, is_over}
use Rattle.rules.specs.Text.{ascii}
use Rattle.rules.specs.Transcript.{transcript}
use Rattle.rules.specs.Call.{Answer, refusal, done, Call, event, signal, fire, begin_outcome, ready_outcome, entries_part}
use Rattle.rules.specs.ReferenceRun.{words_after, answers_after, ledger_after}
use Rattle.starred.specs.SamplePlan.{bytes_of, plan_p, journal_p, lent_at}
use Rattle.starred.specs.Computing.{computing}

abbrev at : Limit → Terms
at k = terms_of (record { limit = k })

abbrev lent : Limit → List ℕ
lent k = lent_at (at k) 3

abbrev counts_p : Counts
counts_p = record { tracks = 3; states = 8; transitions = 5; windows = 0; grants = 1 }

abbrev e : ℕ → Call
e n = event (record { event = n; day = pos 0; society = 1 })

abbrev f : ℕ → Call
f t = fire (record { track = t; society = 1 })

abbrev s : Call
s = signal (record { society = 1 })

-- on plan P: the answers to a list of calls after begin, and the ledger, its words and what is ready after the list
abbrev answers : Limit → List Call → List Answer
answers k cs = answers_after (at k) plan_p (lent k) cs

abbrev words : Limit → List Call → List ℕ
words k cs = words_after (at k) plan_p (lent k) cs

abbrev ledger : Limit → List Call → Ledger
ledger k cs = ledger_after (at k) plan_p (plan_of plan_p counts_p) (lent k) cs

abbrev ready_after : Limit → List Call → Answer
ready_after k cs = (ready_outcome (at k) plan_p (words k cs)).answer

-- "No bytes: 2."
pub no_bytes : (k : Limit) → (begin_outcome (at k) [] (lent k)).answer ≡ refusal 2
unfolding computing
no_bytes Main = refl
no_bytes ReadingRoom = refl

-- "End record only: 8."
pub end_only : (k : Limit) → (begin_outcome (at k) (bytes_of (4 ∷ 4 ∷ [])) (lent k)).answer ≡ refusal 8
unfolding computing
end_only Main = refl
end_only ReadingRoom = refl

-- "Bytes after end: 7."
pub bytes_after_end : (k : Limit) → (begin_outcome (at k) (bytes_of (4 ∷ 4 ∷ []) ++ (0 ∷ [])) (lent k)).answer ≡ refusal 7
unfolding computing
bytes_after_end Main = refl
bytes_after_end ReadingRoom = refl

-- the bytes of P are accepted, and read as the plan that the paper lists
pub accepts-P : read_plan plan_p ≡ accepted counts_p
unfolding computing
accepts-P = refl

pub reads-P : plan_of plan_p counts_p
    ≡ record {
      hosts = 65535 ∷ 1 ∷ 1 ∷ [];
      states =
          record { track = 0; final = 0; replacement = 0 }
          ∷ record { track = 0; final = 0; replacement = 90 }
          ∷ record { track = 0; final = 1; replacement = 0 }
          ∷ record { track = 1; final = 0; replacement = 0 }
          ∷ record { track = 1; final = 1; replacement = 0 }
          ∷ record { track = 2; final = 0; replacement = 0 }
          ∷ record { track = 2; final = 0; replacement = 0 }
          ∷ record { track = 2; final = 1; replacement = 0 }
          ∷ [];
      transitions =
          record { source = 0; event = 10; code = 50; deviation = 65535; destination = 1 }
          ∷ record { source = 1; event = 13; code = 0; deviation = 65535; destination = 2 }
          ∷ record { source = 3; event = 11; code = 51; deviation = 65535; destination = 4 }
          ∷ record { source = 5; event = 12; code = 52; deviation = 65535; destination = 6 }
          ∷ record { source = 6; event = 14; code = 54; deviation = 65535; destination = 7 }
          ∷ [];
      windows = [];
      grants = record { society = 1; root = 0; rights = 7 } ∷ [];
    }
unfolding computing
reads-P = refl

-- "P, event 13 first: moved 0."
pub thirteen_first : (k : Limit) → answers k (e 13 ∷ []) ≡ done (0 ∷ 0 ∷ []) ∷ []
unfolding computing
thirteen_first Main = refl
thirteen_first ReadingRoom = refl

-- "After 10, event 13: moved 0, scope open."
pub thirteen_after_ten : (k : Limit) → (answers k (e 10 ∷ e 13 ∷ []) ≡ done (1 ∷ 0 ∷ []) ∷ done (0 ∷ 0 ∷ []) ∷ [])
    × (is_open (plan_of plan_p counts_p) (ledger k (e 10 ∷ e 13 ∷ [])) 1 ≡ true)
unfolding computing
thirteen_after_ten Main = (refl, refl)
thirteen_after_ten ReadingRoom = (refl, refl)

-- "P, 10, 11, 12, 14: last closes 1; track 0 holds 50, 90."
pub last_closes : (k : Limit) → (answers k (e 10 ∷ e 11 ∷ e 12 ∷ e 14 ∷ [])
    ≡ done (1 ∷ 0 ∷ []) ∷ done (1 ∷ 0 ∷ []) ∷ done (1 ∷ 0 ∷ []) ∷ done (1 ∷ 1 ∷ []) ∷ [])
    × (entries_part (at k) plan_p (words k (e 10 ∷ e 11 ∷ e 12 ∷ e 14 ∷ [])) 0 ≡ 50 ∷ 65535 ∷ 90 ∷ 65535 ∷ [])
unfolding computing
last_closes Main = (refl, refl)
last_closes ReadingRoom = (refl, refl)

-- "Signal then fires 90, 50."
pub then_fires : (k : Limit) → answers k (e 10 ∷ e 11 ∷ e 12 ∷ e 14 ∷ s ∷ f 0 ∷ f 0 ∷ [])
    ≡ done (1 ∷ 0 ∷ []) ∷ done (1 ∷ 0 ∷ []) ∷ done (1 ∷ 0 ∷ []) ∷ done (1 ∷ 1 ∷ [])
    ∷ done (1 ∷ []) ∷ done (90 ∷ 65535 ∷ []) ∷ done (50 ∷ 65535 ∷ []) ∷ []
unfolding computing
then_fires Main = refl
then_fires ReadingRoom = refl

-- "Then 13 instead of the signal: over; the next signal is 20."
pub then_over : (k : Limit) → (is_over (plan_of plan_p counts_p) (ledger k (e 10 ∷ e 11 ∷ e 12 ∷ e 14 ∷ e 13 ∷ [])) ≡ true)
    × (answers k (e 10 ∷ e 11 ∷ e 12 ∷ e 14 ∷ e 13 ∷ s ∷ [])
    ≡ done (1 ∷ 0 ∷ []) ∷ done (1 ∷ 0 ∷ []) ∷ done (1 ∷ 0 ∷ []) ∷ done (1 ∷ 1 ∷ []) ∷ done (1 ∷ 0 ∷ []) ∷ refusal 20 ∷ [])
unfolding computing
then_over Main = (refl, refl)
then_over ReadingRoom = (refl, refl)

-- "P, signal after begin: turned 1, ready 0, not over."
pub signal_first : (k : Limit) → (answers k (s ∷ []) ≡ done (1 ∷ []) ∷ [])
    × (ready_after k (s ∷ []) ≡ done (0 ∷ []))
    × (is_over (plan_of plan_p counts_p) (ledger k (s ∷ [])) ≡ false)
unfolding computing
signal_first Main = (refl, refl, refl)
signal_first ReadingRoom = (refl, refl, refl)

-- "After 10 and signal: turned 3, scope abandoned, ready bit 0 only."
pub scope_abandoned : (k : Limit) → (answers k (e 10 ∷ s ∷ []) ≡ done (1 ∷ 0 ∷ []) ∷ done (3 ∷ []) ∷ [])
    × (is_open (plan_of plan_p counts_p) (ledger k (e 10 ∷ s ∷ [])) 1 ≡ false)
    × (ready_after k (e 10 ∷ s ∷ []) ≡ done (1 ∷ []))
unfolding computing
scope_abandoned Main = (refl, refl, refl)
scope_abandoned ReadingRoom = (refl, refl, refl)

-- "Firing track 0 while 1 holds an entry: 22."
pub host_waits : (k : Limit) → answers k (e 10 ∷ e 11 ∷ s ∷ f 0 ∷ [])
    ≡ done (1 ∷ 0 ∷ []) ∷ done (1 ∷ 0 ∷ []) ∷ done (3 ∷ []) ∷ refusal 22 ∷ []
unfolding computing
host_waits Main = refl
host_waits ReadingRoom = refl

-- "Whole output", of the sample journal
pub whole_output : transcript main_terms plan_p journal_p
    ≡ ascii "PLAN 3 8 5\nE 10 1 0\nE 11 1 0\nE 12 1 0\nS 3\nF 1 51 -\nF 2 52 -\nF 0 50 -\nR 22\nH 0 3\n"
unfolding computing
whole_output = refl
