-- Refusal 21 and the words read the caller's own limit, computed on one root that takes the same step again and again. Assumes nothing.
use mathlib.Core.Path.{◌≡◌, refl}
use mathlib.Core.List.{List, [], ◌∷◌, ◌++◌}
use Prim.Native.Nat.{ℕ}
use lib.IntN.{pos}
use lib.ListN.{length, drop, replicate}
use Rattle.rules.specs.declared.Terms.{Terms}
use Rattle.rules.specs.Setting.{main_terms, reading_room_terms}
use Rattle.rules.specs.Layout.{word_count}
use Rattle.rules.specs.Call.{Answer, refusal, done, Call, event, signal, fire, begin_outcome, entries_part}
use Rattle.rules.specs.ReferenceRun.{words_after, answers_after}
use Rattle.starred.specs.SamplePlan.{lent_at, plan_loop}
use Rattle.starred.specs.Computing.{computing}

abbrev step : Call
step = event (record { event = 1; day = pos 0; society = 1 })

abbrev moved : Answer
moved = done (1 ∷ 0 ∷ [])

-- the answers to so many steps after a begin, what is held then, and the words
abbrev answers : Terms → ℕ → List Answer
answers terms n = answers_after terms plan_loop (lent_at terms 1) (replicate n step)

abbrev words : Terms → ℕ → List ℕ
words terms n = words_after terms plan_loop (lent_at terms 1) (replicate n step)

-- in the reading rooms an 8th entry installs and a 9th is 21
pub eighth : (answers reading_room_terms 9 ≡ replicate 8 moved ++ (refusal 21 ∷ []))
    × (length (entries_part reading_room_terms plan_loop (words reading_room_terms 9) 0) ≡ 16)
unfolding computing
eighth = (refl, refl)

-- "A 32nd entry installs; a 33rd is 21."
pub thirty_second : (answers main_terms 33 ≡ replicate 32 moved ++ (refusal 21 ∷ []))
    × (length (entries_part main_terms plan_loop (words main_terms 33) 0) ≡ 64)
unfolding computing
thirty_second = (refl, refl)

-- limit 0 is one that a word can count: each step with a code is 21; at 3 a 4th entry is
pub none_at_0 : answers (record { limit = 0 }) 2 ≡ refusal 21 ∷ refusal 21 ∷ []
unfolding computing
none_at_0 = refl

pub third : answers (record { limit = 3 }) 4 ≡ replicate 3 moved ++ (refusal 21 ∷ [])
unfolding computing
third = refl

-- the words that one track needs: one fewer is 17, those beyond stay
pub words_needed : (word_count reading_room_terms 1 ≡ 23) × (word_count main_terms 1 ≡ 71)
unfolding computing
words_needed = (refl, refl)

pub one_fewer : ((begin_outcome reading_room_terms plan_loop (replicate 22 7)).answer ≡ refusal 17)
    × ((begin_outcome reading_room_terms plan_loop (replicate 23 7)).answer ≡ done [])
unfolding computing
one_fewer = (refl, refl)

pub beyond_stays : (drop 23 (words reading_room_terms 9) ≡ 7 ∷ 7 ∷ []) × (drop 71 (words main_terms 9) ≡ 7 ∷ 7 ∷ [])
unfolding computing
beyond_stays = (refl, refl)

-- after a signal the eight are fired, newest first, and no ninth
pub eight_fired : answers_after reading_room_terms plan_loop (lent_at reading_room_terms 1)
    (replicate 8 step ++ (signal (record { society = 1 }) ∷ replicate 9 (fire (record { track = 0; society = 1 }))))
    ≡ replicate 8 moved ++ (done (1 ∷ []) ∷ (replicate 8 (done (5 ∷ 65535 ∷ [])) ++ (refusal 22 ∷ [])))
unfolding computing
eight_fired = refl
