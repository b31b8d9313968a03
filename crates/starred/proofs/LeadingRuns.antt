-- The plan's two leading words on plan P, from bytes and words: begin writes them, an over ledger keeps them, and under a neighbour's plan every call but
-- begin is refused by them. Each is proved by computing the definitions of the rules. Assumes nothing.
use mathlib.Core.Path.{◌≡◌, refl}
use mathlib.Core.List.{List, [], ◌∷◌}
use Prim.Native.Nat.{ℕ}
use lib.IntN.{pos}
use lib.ListN.{length, take, replicate}
use Rattle.rules.specs.Setting.{main_terms}
use Rattle.rules.specs.Leading.{plan_sum}
use Rattle.rules.specs.Call.{Answer, refusal, done, Call, event, signal, fire, begin_outcome, ready_outcome, call_outcome, entries_part}
use Rattle.rules.specs.ReferenceRun.{words_after}
use Rattle.starred.specs.SamplePlan.{plan_p, neighbour_p, alike_p, lent_for}
use Rattle.starred.specs.Computing.{computing}

abbrev e : ℕ → Call
e n = event (record { event = n; day = pos 0; society = 1 })

abbrev s : Call
s = signal (record { society = 1 })

-- P's words after begin and a list of events: one is underway, one is over
abbrev words : List Call → List ℕ
words cs = words_after main_terms plan_p (lent_for 3) cs

abbrev underway : List ℕ
underway = words (e 10 ∷ [])

abbrev over : List ℕ
over = words (e 10 ∷ e 11 ∷ e 12 ∷ e 14 ∷ e 13 ∷ [])

-- what a call answers to such words under a plan
abbrev answer : List ℕ → List ℕ → Call → Answer
answer bs ws c = (call_outcome main_terms bs ws c).answer

-- "the plan's length in bytes, and the sum modulo 65,536 of its bytes taken as little-endian 16-bit numbers"
pub leads-P : (length plan_p ≡ 182) × (plan_sum plan_p ≡ 633)
unfolding computing
leads-P = (refl, refl)

-- "Begin writes them", and the earliest day behind them; a call and finish leave them, and an event writes its day
pub begin_writes : take 4 (words []) ≡ 182 ∷ 633 ∷ 21499 ∷ 65534 ∷ []
unfolding computing
begin_writes = refl

pub calls_leave : (take 4 underway ≡ 182 ∷ 633 ∷ 0 ∷ 0 ∷ []) × (take 4 over ≡ 182 ∷ 633 ∷ 0 ∷ 0 ∷ [])
unfolding computing
calls_leave = (refl, refl)

-- "every other call tests them": a ledger that was begun under P, read under its neighbour's plan
pub other_calls : (answer neighbour_p underway (e 11) ≡ refusal 24)
    × (answer neighbour_p underway s ≡ refusal 24)
    × (answer neighbour_p underway (fire (record { track = 0; society = 1 })) ≡ refusal 24)
    × ((ready_outcome main_terms neighbour_p underway).answer ≡ refusal 24)
    × (entries_part main_terms neighbour_p underway 0 ≡ [])
    × (entries_part main_terms plan_p underway 0 ≡ 50 ∷ 65535 ∷ [])
unfolding computing
other_calls = (refl, refl, refl, refl, refl, refl)

pub other_begins : (begin_outcome main_terms neighbour_p underway).answer ≡ done []
unfolding computing
other_begins = refl

-- 24 comes before 20 and before 18, and after 17
pub other_over : (answer plan_p over s ≡ refusal 20) × (answer neighbour_p over s ≡ refusal 24)
unfolding computing
other_over = (refl, refl)

pub zeros_other : (answer plan_p (replicate 205 0) s ≡ refusal 24)
    × (answer plan_p (182 ∷ 633 ∷ replicate 203 0) s ≡ refusal 20)
    × (answer plan_p (replicate 205 7) s ≡ refusal 24)
    × (answer plan_p (182 ∷ 633 ∷ 0 ∷ 0 ∷ replicate 201 7) s ≡ refusal 18)
    × (answer plan_p (replicate 204 0) s ≡ refusal 17)
unfolding computing
zeros_other = (refl, refl, refl, refl, refl)

-- "either word is not the plan's"
pub either_word : (answer plan_p (180 ∷ 633 ∷ replicate 203 0) s ≡ refusal 24)
    × (answer plan_p (182 ∷ 632 ∷ replicate 203 0) s ≡ refusal 24)
unfolding computing
either_word = (refl, refl)

-- "Keeping the pair together stays the caller's part only among plans alike in the two words": such a plan's ledger is taken
pub alike_taken : (length alike_p ≡ 182) × (plan_sum alike_p ≡ 633) × (answer alike_p underway (e 11) ≡ done (1 ∷ 0 ∷ []))
unfolding computing
alike_taken = (refl, refl, refl)
