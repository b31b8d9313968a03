-- Isolation on a plan with two roots, from bytes and words: a society alone over its root gets the same answers beside two lists of others' calls
-- that leave different ledgers; and, for each thing asked, two lists where that alone fails and the answers differ. Each is proved by computing the
-- definitions of the rules. Assumes nothing.
use mathlib.Core.Path.{◌≡◌, refl, sym}
use mathlib.Core.Bool.{true, false}
use mathlib.Core.List.{List, [], ◌∷◌}
use Prim.Native.Nat.{ℕ, zero, suc}
use native.Mathlib.Omega.{arith}
use lib.IntN.{pos}
use borrow.Author.Tests.{ne_eqb}
use Rattle.rules.specs.declared.Counts.{Counts}
use Rattle.rules.specs.Plan.{Plan, plan_of}
use Rattle.rules.specs.Acceptance.{accepted, read_plan}
use Rattle.rules.specs.Setting.{main_terms}
use Rattle.rules.specs.Call.{Answer, refusal, done, Call, event, signal, fire, ready_outcome, entries_part}
use Rattle.rules.specs.ReferenceRun.{words_after, answers_after}
use Rattle.rules.specs.Isolation.{holds_any, Alone, own_calls, own_answers, is_over_now, lasts}
use Rattle.rules.proofs.Tests.{clash}
use Rattle.starred.specs.SamplePlan.{lent_for}
use Rattle.starred.specs.RightsPlans.{plan_own, plan_shared}
use Rattle.starred.specs.Computing.{computing}

-- both plans hold so many records
abbrev counts : Counts
counts = record { tracks = 3; states = 8; transitions = 6; windows = 0; grants = 2 }

abbrev own : Plan
own = plan_of plan_own counts

abbrev shared : Plan
shared = plan_of plan_shared counts

pub reads_own : (read_plan plan_own ≡ accepted counts) × (read_plan plan_shared ≡ accepted counts)
unfolding computing
reads_own = (refl, refl)

-- the calls of a society: an event on a day, a signal, a firing
abbrev on : ℕ → ℕ → ℕ → Call
on day society n = event (record { event = n; day = pos day; society = society })

abbrev e : ℕ → ℕ → Call
e = on 0

abbrev s : ℕ → Call
s society = signal (record { society = society })

abbrev f : ℕ → ℕ → Call
f society t = fire (record { track = t; society = society })

-- under a plan, after begin: the answers to a list of calls, those to society 1's, and that the list lasts for it
abbrev answers : List ℕ → List Call → List Answer
answers bs cs = answers_after main_terms bs (lent_for 3) cs

abbrev words : List ℕ → List Call → List ℕ
words bs cs = words_after main_terms bs (lent_for 3) cs

abbrev answered : List ℕ → List Call → List Answer
answered bs cs = own_answers 1 cs (answers bs cs)

abbrev Lasts : List ℕ → List Call → Type 0
Lasts bs cs = lasts main_terms bs (plan_of bs counts) 1 (words bs []) cs ≡ true

-- society 1 is alone over the first root, which is its only one
pub alone : Alone own 1
unfolding computing
alone other zero n h = rw (ne_eqb 1 other (λ q. n (sym q)))
alone other (suc zero) n h = clash h refl
alone other (suc (suc root)) n h =
    clash h
    (rw (
      ne_eqb 0 (suc (suc root)) (λ q. let i : suc (suc root) ≡ 0 = sym q in omega arith),
      ne_eqb 1 (suc (suc root)) (λ q. let i : suc (suc root) ≡ 1 = sym q in omega arith),
    ))

-- Two lists with the same calls of society 1: in one the other society takes its root back, in the other it leaves it underway.
abbrev one : List Call
one = e 2 1 ∷ e 1 1 ∷ s 2 ∷ e 1 7 ∷ f 2 1 ∷ s 1 ∷ f 1 0 ∷ []

abbrev another : List Call
another = e 1 1 ∷ e 2 1 ∷ e 1 7 ∷ e 2 3 ∷ s 1 ∷ f 1 0 ∷ []

pub same_calls : (own_calls 1 one ≡ own_calls 1 another) × Lasts plan_own one × Lasts plan_own another
unfolding computing
same_calls = (refl, refl, refl)

pub same_answers : (answered plan_own one ≡ done (1 ∷ 0 ∷ []) ∷ done (0 ∷ 0 ∷ []) ∷ done (1 ∷ []) ∷ done (41 ∷ 65535 ∷ []) ∷ [])
    × (answered plan_own another ≡ done (1 ∷ 0 ∷ []) ∷ done (0 ∷ 0 ∷ []) ∷ done (1 ∷ []) ∷ done (41 ∷ 65535 ∷ []) ∷ [])
unfolding computing
same_answers = (refl, refl)

-- the ledgers differ, in what the other root holds
pub ledgers_differ : (entries_part main_terms plan_own (words plan_own one) 1 ≡ [])
    × (entries_part main_terms plan_own (words plan_own another) 1 ≡ 51 ∷ 65535 ∷ 90 ∷ 65535 ∷ [])
unfolding computing
ledgers_differ = (refl, refl)

-- Before the last firing the ready bits of the first root are the same too, and those of the other root are not.
pub ready_differs : ((ready_outcome main_terms plan_own (words plan_own (e 2 1 ∷ e 1 1 ∷ s 2 ∷ s 1 ∷ []))).answer ≡ done (3 ∷ []))
    × ((ready_outcome main_terms plan_own (words plan_own (e 2 1 ∷ e 1 1 ∷ s 1 ∷ []))).answer ≡ done (1 ∷ []))
unfolding computing
ready_differs = (refl, refl)

-- "Let no other society hold a right over the roots": where society 2 may move the first root too, it moves it away
pub not_alone : (own_calls 1 (e 2 1 ∷ e 1 1 ∷ []) ≡ own_calls 1 (e 1 1 ∷ []))
    × Lasts plan_shared (e 2 1 ∷ e 1 1 ∷ []) × Lasts plan_shared (e 1 1 ∷ [])
    × (answered plan_shared (e 2 1 ∷ e 1 1 ∷ []) ≡ done (0 ∷ 0 ∷ []) ∷ []) × (answered plan_shared (e 1 1 ∷ []) ≡ done (1 ∷ 0 ∷ []) ∷ [])
    × (holds_any shared 1 0 ≡ true) × (holds_any shared 2 0 ≡ true)
unfolding computing
not_alone = (refl, refl, refl, refl, refl, refl, refl)

-- "as long as neither ledger is over": the other society's last event finishes one of them. No call is refused for its day
abbrev over : List Call
over = e 1 1 ∷ e 1 2 ∷ e 2 1 ∷ e 2 3 ∷ e 2 2 ∷ s 1 ∷ []

abbrev not_over : List Call
not_over = e 1 1 ∷ e 1 2 ∷ e 2 1 ∷ s 1 ∷ []

pub over_between : (own_calls 1 over ≡ own_calls 1 not_over)
    × (answers plan_own over ≡ done (1 ∷ 0 ∷ []) ∷ done (1 ∷ 0 ∷ []) ∷ done (1 ∷ 0 ∷ []) ∷ done (1 ∷ 1 ∷ []) ∷ done (1 ∷ 0 ∷ []) ∷ refusal 20 ∷ [])
    × (answers plan_own not_over ≡ done (1 ∷ 0 ∷ []) ∷ done (1 ∷ 0 ∷ []) ∷ done (1 ∷ 0 ∷ []) ∷ done (1 ∷ []) ∷ [])
    × (is_over_now main_terms plan_own own (words plan_own (e 1 1 ∷ e 1 2 ∷ e 2 1 ∷ e 2 3 ∷ e 2 2 ∷ [])) ≡ true) × Lasts plan_own not_over
unfolding computing
over_between = (refl, refl, refl, refl, refl)

-- "neither refuses a call for its day": the other society's later event makes its own too early in one of them, and neither is over
abbrev late : List Call
late = on 5 2 1 ∷ on 3 1 1 ∷ []

abbrev early : List Call
early = on 2 2 1 ∷ on 3 1 1 ∷ []

pub refused_for_day : (own_calls 1 late ≡ own_calls 1 early)
    × (answered plan_own late ≡ refusal 26 ∷ []) × (answered plan_own early ≡ done (1 ∷ 0 ∷ []) ∷ [])
    × (is_over_now main_terms plan_own own (words plan_own []) ≡ false)
    × (is_over_now main_terms plan_own own (words plan_own (on 5 2 1 ∷ [])) ≡ false) × (is_over_now main_terms plan_own own (words plan_own late) ≡ false)
    × Lasts plan_own early
unfolding computing
refused_for_day = (refl, refl, refl, refl, refl, refl, refl)
