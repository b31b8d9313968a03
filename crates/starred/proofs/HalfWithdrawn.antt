-- Links that end half withdrawn, on a plan with two roots, from bytes and words: one root is taken back, the other deviates and reaches its final
-- state. Each is proved by computing the definitions of the rules. Assumes nothing.
use mathlib.Core.Path.{◌≡◌, refl}
use mathlib.Core.List.{List, [], ◌∷◌, ◌++◌}
use Prim.Native.Nat.{ℕ}
use lib.IntN.{pos}
use lib.ListN.{take, replicate}
use Rattle.rules.specs.Setting.{main_terms}
use Rattle.rules.specs.Call.{Answer, refusal, done, Call, event, signal, fire, ready_outcome, call_outcome}
use Rattle.rules.specs.ReferenceRun.{words_after, answers_after}
use Rattle.starred.specs.SamplePlan.{two_roots, lent_for}
use Rattle.starred.specs.Computing.{computing}

abbrev e : ℕ → Call
e n = event (record { event = n; day = pos 0; society = 1 })

abbrev f : ℕ → Call
f t = fire (record { track = t; society = 1 })

abbrev s : Call
s = signal (record { society = 1 })

abbrev answers : List Call → List Answer
answers cs = answers_after main_terms two_roots (lent_for 3) cs

abbrev words : List Call → List ℕ
words cs = words_after main_terms two_roots (lent_for 3) cs

-- the second root's entry is still held when the first one ends: the firing that takes it finishes, and answers as ever. What the ended root holds
-- is dropped unfired, and the next call is 20
pub ends_by_firing : answers (e 5 ∷ e 1 ∷ s ∷ f 0 ∷ e 2 ∷ f 1 ∷ f 0 ∷ [])
    ≡ done (1 ∷ 0 ∷ []) ∷ done (1 ∷ 0 ∷ []) ∷ done (3 ∷ []) ∷ done (41 ∷ 0 ∷ []) ∷ done (1 ∷ 0 ∷ []) ∷ done (51 ∷ 65535 ∷ []) ∷ refusal 20 ∷ []
unfolding computing
ends_by_firing = refl

-- the last day, 0, stays
pub all_asleep_lem : words (e 5 ∷ e 1 ∷ s ∷ f 0 ∷ e 2 ∷ f 1 ∷ []) ≡ take 2 (words []) ++ (0 ∷ 0 ∷ replicate 201 0 ++ replicate 2 7)
unfolding computing
all_asleep_lem = refl

-- the second root is taken back first: the event by which the other ends finishes
pub ends_by_event : answers (e 5 ∷ e 1 ∷ s ∷ f 1 ∷ f 0 ∷ e 2 ∷ s ∷ [])
    ≡ done (1 ∷ 0 ∷ []) ∷ done (1 ∷ 0 ∷ []) ∷ done (3 ∷ []) ∷ done (51 ∷ 65535 ∷ []) ∷ done (41 ∷ 0 ∷ []) ∷ done (1 ∷ 0 ∷ []) ∷ refusal 20 ∷ []
unfolding computing
ends_by_event = refl

-- the second root holds nothing, and its scope is open: "abandoning done", the firing by which the scope is abandoned finishes
pub ends_by_abandoning : answers (e 1 ∷ e 3 ∷ s ∷ f 0 ∷ e 2 ∷ f 2 ∷ s ∷ [])
    ≡ done (2 ∷ 0 ∷ []) ∷ done (1 ∷ 0 ∷ []) ∷ done (3 ∷ []) ∷ done (41 ∷ 0 ∷ []) ∷ done (1 ∷ 0 ∷ []) ∷ done (61 ∷ 65535 ∷ []) ∷ refusal 20 ∷ []
unfolding computing
ends_by_abandoning = refl

-- "at least one being the former": where every root is withdrawn the ledger is not over
pub all_withdrawn : (answers (e 5 ∷ s ∷ f 1 ∷ s ∷ [])
    ≡ done (1 ∷ 0 ∷ []) ∷ done (3 ∷ []) ∷ done (51 ∷ 65535 ∷ []) ∷ done (0 ∷ []) ∷ [])
    × ((ready_outcome main_terms two_roots (words (e 5 ∷ s ∷ f 1 ∷ []))).answer ≡ done (0 ∷ []))
unfolding computing
all_withdrawn = (refl, refl)

-- "Soundness reads the new settling": the first root has ended and holds an entry, the second is undoing in its hosting state and holds so many
abbrev mixed : ℕ → List ℕ → List ℕ
mixed count pair =
    take 4 (words []) ++ (1 ∷ 2 ∷ 1 ∷ 42 ∷ 65535 ∷ replicate 62 0) ++ (2 ∷ 4 ∷ count ∷ pair) ++ replicate 62 0 ++ replicate 67 0

pub finish_left : ((call_outcome main_terms two_roots (mixed 0 (0 ∷ 0 ∷ [])) s).answer ≡ refusal 18)
    × ((call_outcome main_terms two_roots (mixed 1 (51 ∷ 65535 ∷ [])) s).answer ≡ done (1 ∷ []))
unfolding computing
finish_left = (refl, refl)
