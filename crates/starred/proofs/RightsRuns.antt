-- Rights on plans with two roots, from bytes and words: which tracks a society's event moves and its signal turns, which calls are 28, what kind 19
-- picks, and which rights records are turned back. Each is proved by computing the definitions of the rules. Assumes nothing.
use mathlib.Core.Path.{◌≡◌, refl}
use mathlib.Core.Bool.{false}
use mathlib.Core.List.{List, [], ◌∷◌, ◌++◌}
use Prim.Native.Nat.{ℕ}
use lib.IntN.{pos}
use lib.ListN.{take, replicate}
use Rattle.rules.specs.declared.Counts.{Counts}
use Rattle.rules.specs.declared.Mode.TheVariants.{Asleep, Forward, Undoing}
use Rattle.rules.specs.Plan.{plan_of}
use Rattle.rules.specs.Acceptance.{accepted, turned_back, read_plan}
use Rattle.rules.specs.Setting.{main_terms}
use Rattle.rules.specs.Ledger.{Ledger}
use Rattle.rules.specs.Scope.{is_over}
use Rattle.rules.specs.Call.{Answer, refusal, done, Call, event, signal, fire, begin_outcome, ready_outcome, call_outcome}
use Rattle.rules.specs.Text.{ascii}
use Rattle.rules.specs.Transcript.{transcript}
use Rattle.rules.specs.ReferenceRun.{words_after, answers_after, ledger_after}
use Rattle.starred.specs.SamplePlan.{bytes_of, lent_for}
use Rattle.starred.specs.WindowPlans.{window_of, four, five, rights_of}
use Rattle.starred.specs.RightsPlans.{with_rights, plan_r, many_rights, entries_of, rights_early, rights_last}
use Rattle.starred.specs.Computing.{computing}

abbrev counts_r : Counts
counts_r = record { tracks = 3; states = 8; transitions = 6; windows = 0; grants = 6 }

-- the calls of a society: an event on day 0, a signal, a firing
abbrev e : ℕ → ℕ → Call
e society n = event (record { event = n; day = pos 0; society = society })

abbrev s : ℕ → Call
s society = signal (record { society = society })

abbrev f : ℕ → ℕ → Call
f society t = fire (record { track = t; society = society })

abbrev answers : List Call → List Answer
answers cs = answers_after main_terms plan_r (lent_for 3) cs

abbrev words : List Call → List ℕ
words cs = words_after main_terms plan_r (lent_for 3) cs

abbrev ledger : List Call → Ledger
ledger cs = ledger_after main_terms plan_r (plan_of plan_r counts_r) (lent_for 3) cs

-- the plan as it is read
pub reads-R : (read_plan plan_r ≡ accepted counts_r)
    × ((plan_of plan_r counts_r).grants
    ≡ record { society = 1; root = 0; rights = 7 }
    ∷ record { society = 2; root = 1; rights = 7 }
    ∷ record { society = 3; root = 0; rights = 1 }
    ∷ record { society = 3; root = 1; rights = 1 }
    ∷ record { society = 4; root = 1; rights = 2 }
    ∷ record { society = 5; root = 0; rights = 4 }
    ∷ [])
unfolding computing
reads-R = (refl, refl)

-- "Events move .. only tracks under roots where it has that right, figures count only those"
pub moves_own : (answers (e 1 1 ∷ []) ≡ done (1 ∷ 0 ∷ []) ∷ [])
    × (answers (e 2 1 ∷ []) ≡ done (1 ∷ 0 ∷ []) ∷ [])
    × (answers (e 3 1 ∷ []) ≡ done (2 ∷ 0 ∷ []) ∷ [])
    × ((ledger (e 1 1 ∷ []) 0).state ≡ 1) × ((ledger (e 1 1 ∷ []) 1).state ≡ 3)
    × ((ledger (e 2 1 ∷ []) 0).state ≡ 0) × ((ledger (e 2 1 ∷ []) 1).state ≡ 4)
unfolding computing
moves_own = (refl, refl, refl, refl, refl, refl, refl)

-- "over a root and everything under it": the hosted track, and its scope's closing; another society's event moves nobody there
pub moves_under : answers (e 2 1 ∷ e 1 3 ∷ e 2 3 ∷ []) ≡ done (1 ∷ 0 ∷ []) ∷ done (0 ∷ 0 ∷ []) ∷ done (1 ∷ 1 ∷ []) ∷ []
unfolding computing
moves_under = refl

-- "signals turn only tracks under roots where it has that right": one root undoing, the other forward with what it hosts
pub turns_own : (answers (e 3 1 ∷ s 1 ∷ []) ≡ done (2 ∷ 0 ∷ []) ∷ done (1 ∷ []) ∷ [])
    × ((ledger (e 3 1 ∷ s 1 ∷ []) 0).mode ≡ Undoing) × ((ledger (e 3 1 ∷ s 1 ∷ []) 1).mode ≡ Forward) × ((ledger (e 3 1 ∷ s 1 ∷ []) 2).mode ≡ Forward)
unfolding computing
turns_own = (refl, refl, refl, refl)

pub turns_under : (answers (e 3 1 ∷ e 3 7 ∷ s 4 ∷ []) ≡ done (2 ∷ 0 ∷ []) ∷ done (0 ∷ 0 ∷ []) ∷ done (2 ∷ []) ∷ [])
    × ((ledger (e 3 1 ∷ s 4 ∷ []) 0).mode ≡ Forward) × ((ledger (e 3 1 ∷ s 4 ∷ []) 1).mode ≡ Undoing) × ((ledger (e 3 1 ∷ s 4 ∷ []) 2).mode ≡ Asleep)
unfolding computing
turns_under = (refl, refl, refl, refl)

-- what stays forward goes on, beside a root that is taken back
pub goes_on : answers (e 3 1 ∷ s 1 ∷ e 2 3 ∷ f 1 0 ∷ e 3 7 ∷ s 1 ∷ [])
    ≡ done (2 ∷ 0 ∷ []) ∷ done (1 ∷ []) ∷ done (1 ∷ 1 ∷ []) ∷ done (41 ∷ 65535 ∷ []) ∷ done (0 ∷ 0 ∷ []) ∷ done (0 ∷ []) ∷ []
unfolding computing
goes_on = refl

-- a signal finishes: the first root has ended, and the second, which holds nothing, is turned
pub signal_finishes : (answers (e 1 1 ∷ e 1 2 ∷ s 2 ∷ s 2 ∷ [])
    ≡ done (1 ∷ 0 ∷ []) ∷ done (1 ∷ 0 ∷ []) ∷ done (1 ∷ []) ∷ refusal 20 ∷ [])
    × (words (e 1 1 ∷ e 1 2 ∷ s 2 ∷ []) ≡ take 2 (words []) ++ (0 ∷ 0 ∷ replicate 201 0 ++ replicate 2 7))
    × (is_over (plan_of plan_r counts_r) (ledger (e 1 1 ∷ e 1 2 ∷ [])) ≡ false)
unfolding computing
signal_finishes = (refl, refl, refl)

-- 28 "has the move or signal right nowhere for that call"; nobody's is a society that no record names
pub event_28 : answers (e 4 1 ∷ e 5 1 ∷ e 6 1 ∷ e 0 1 ∷ e 65535 1 ∷ [])
    ≡ refusal 28 ∷ refusal 28 ∷ refusal 28 ∷ refusal 28 ∷ refusal 28 ∷ []
unfolding computing
event_28 = refl

pub signal_28 : answers (s 3 ∷ s 5 ∷ s 6 ∷ s 4 ∷ []) ≡ refusal 28 ∷ refusal 28 ∷ refusal 28 ∷ done (1 ∷ []) ∷ []
unfolding computing
signal_28 = refl

-- 28 "the society lacks the fire right for the named track, which exists": it may be fired, and those that have the right fire it
pub fire_28 : answers (e 3 1 ∷ s 1 ∷ f 2 0 ∷ f 3 0 ∷ f 6 0 ∷ f 5 0 ∷ [])
    ≡ done (2 ∷ 0 ∷ []) ∷ done (1 ∷ []) ∷ refusal 28 ∷ refusal 28 ∷ refusal 28 ∷ done (41 ∷ 65535 ∷ []) ∷ []
unfolding computing
fire_28 = refl

-- refused calls leave every word
abbrev begun : List ℕ
begun = take 4 (words []) ++ (1 ∷ 0 ∷ 0 ∷ replicate 64 0) ++ (1 ∷ 3 ∷ 0 ∷ replicate 64 0) ++ replicate 67 0 ++ replicate 2 7

abbrev signalled : List ℕ
signalled =
    take 2 (words []) ++ (0 ∷ 0 ∷ 2 ∷ 1 ∷ 1 ∷ 41 ∷ 65535 ∷ replicate 62 0) ++ (1 ∷ 4 ∷ 1 ∷ 51 ∷ 65535 ∷ replicate 62 0)
    ++ (1 ∷ 6 ∷ 0 ∷ replicate 64 0) ++ replicate 2 7

pub refused_leaves : (words [] ≡ begun) × (words (e 6 1 ∷ s 6 ∷ f 6 0 ∷ []) ≡ begun)
    × (words (e 3 1 ∷ s 1 ∷ []) ≡ signalled) × (words (e 3 1 ∷ s 1 ∷ f 2 0 ∷ []) ≡ signalled)
unfolding computing
refused_leaves = (refl, refl, refl, refl)

-- 28 comes "after 20", and after 19 and 26; a track that may not be fired is 28, one that does not exist 22
pub after_20 : answers (e 1 1 ∷ e 1 2 ∷ s 2 ∷ e 6 1 ∷ s 6 ∷ f 6 0 ∷ [])
    ≡ done (1 ∷ 0 ∷ []) ∷ done (1 ∷ 0 ∷ []) ∷ done (1 ∷ []) ∷ refusal 20 ∷ refusal 20 ∷ refusal 20 ∷ []
unfolding computing
after_20 = refl

pub after_26 : answers (e 6 0 ∷ event (record { event = 1; day = pos 182621; society = 6 }) ∷ []) ≡ refusal 19 ∷ refusal 26 ∷ []
unfolding computing
after_26 = refl

pub before_22 : answers (f 6 0 ∷ f 1 0 ∷ f 2 2 ∷ f 1 2 ∷ f 1 3 ∷ f 6 3 ∷ [])
    ≡ refusal 28 ∷ refusal 22 ∷ refusal 22 ∷ refusal 28 ∷ refusal 22 ∷ refusal 22 ∷ []
unfolding computing
before_22 = refl

-- 28 comes before 21: on a full first root the event is 21 for those who may move it, 28 for those who may move nothing, and taken from one whose
-- own root has room
abbrev full : List ℕ
full =
    take 2 (words []) ++ (0 ∷ 0 ∷ 1 ∷ 0 ∷ 32 ∷ entries_of 47 32) ++ (1 ∷ 3 ∷ 0 ∷ replicate 64 0) ++ replicate 67 0 ++ replicate 2 7

pub filled : words (replicate 32 (e 1 7)) ≡ full
unfolding computing
filled = refl

abbrev answer_full : Call → Answer
answer_full c = (call_outcome main_terms plan_r full c).answer

pub before_21 : (answer_full (e 1 7) ≡ refusal 21) × (answer_full (e 3 1) ≡ refusal 21) × (answer_full (e 6 1) ≡ refusal 28)
    × (answer_full (e 4 1) ≡ refusal 28) × (answer_full (e 2 1) ≡ done (1 ∷ 0 ∷ []))
unfolding computing
before_21 = (refl, refl, refl, refl, refl)

-- "Ready .. leave[s] rights aside": a track may be fired, and nobody has the right
abbrev plan_nobody : List ℕ
plan_nobody = with_rights (rights_of 1 0 3 ++ rights_of 2 1 4)

pub ready_aside : ((ready_outcome main_terms plan_nobody (words_after main_terms plan_nobody (lent_for 3) (e 1 1 ∷ s 1 ∷ []))).answer ≡ done (1 ∷ []))
    × (answers_after main_terms plan_nobody (lent_for 3) (e 1 1 ∷ s 1 ∷ f 1 0 ∷ f 2 0 ∷ [])
    ≡ done (1 ∷ 0 ∷ []) ∷ done (1 ∷ []) ∷ refusal 28 ∷ refusal 28 ∷ [])
unfolding computing
ready_aside = (refl, refl)

-- Without a record nobody has a right, and the plan is accepted
pub no_record : answers_after main_terms (with_rights []) (lent_for 3) (e 1 1 ∷ s 1 ∷ f 1 0 ∷ f 1 3 ∷ [])
    ≡ refusal 28 ∷ refusal 28 ∷ refusal 28 ∷ refusal 22 ∷ []
unfolding computing
no_record = refl

-- "kind 19 picks among tracks it may fire, 22 if none": society 2 passes over the first root, which is ready, and society 4 may fire nothing
pub lowest_own : transcript main_terms plan_r
    (bytes_of
    (12 ∷ 20 ∷ 1 ∷ 0 ∷ 0 ∷ 3 ∷ 6 ∷ 17 ∷ 1 ∷ 6 ∷ 17 ∷ 2
    ∷ 6 ∷ 19 ∷ 4 ∷ 6 ∷ 19 ∷ 2 ∷ 6 ∷ 19 ∷ 2 ∷ 8 ∷ 18 ∷ 0 ∷ 2 ∷ 6 ∷ 19 ∷ 5
    ∷ []))
    ≡ ascii "PLAN 3 8 6\nE 1 2 0\nS 1\nS 2\nR 22\nF 1 51 -\nR 22\nR 28\nF 0 41 -\nH 0 2\n"
unfolding computing
lowest_own = refl

-- "in journals it is a last 16-bit field, each length growing by 2": the former lengths are 23
abbrev once : List ℕ → List ℕ
once js = transcript main_terms plan_r (bytes_of js)

pub former_lengths : (once (10 ∷ 20 ∷ 1 ∷ 0 ∷ 0 ∷ []) ≡ ascii "PLAN 3 8 6\nR 23\nH 0 0\n")
    × (once (4 ∷ 17 ∷ []) ≡ ascii "PLAN 3 8 6\nR 23\nH 0 0\n")
    × (once (6 ∷ 18 ∷ 0 ∷ []) ≡ ascii "PLAN 3 8 6\nR 23\nH 0 0\n")
    × (once (4 ∷ 19 ∷ []) ≡ ascii "PLAN 3 8 6\nR 23\nH 0 0\n")
unfolding computing
former_lengths = (refl, refl, refl, refl)

-- any 16-bit number is a society
abbrev plan_ends : List ℕ
plan_ends = with_rights (rights_of 0 0 7 ++ rights_of 65535 1 7)

pub any_society : answers_after main_terms plan_ends (lent_for 3) (e 0 1 ∷ e 65535 1 ∷ e 1 1 ∷ s 65535 ∷ f 0 1 ∷ f 65535 1 ∷ s 0 ∷ f 0 0 ∷ [])
    ≡ done (1 ∷ 0 ∷ []) ∷ done (1 ∷ 0 ∷ []) ∷ refusal 28 ∷ done (2 ∷ []) ∷ refusal 28 ∷ done (51 ∷ 65535 ∷ []) ∷ done (1 ∷ []) ∷ done (41 ∷ 65535 ∷ []) ∷ []
unfolding computing
any_society = refl

-- 27 "a rights record names no root, a sum outside 1 to 7, a repeated pair, or is the 65th"
abbrev begins : List ℕ → Answer
begins rights = (begin_outcome main_terms (with_rights rights) (lent_for 3)).answer

pub names_no_root_lem : (begins (rights_of 1 3 7) ≡ refusal 27) × (begins (rights_of 1 65535 7) ≡ refusal 27) × (begins (rights_of 1 2 7) ≡ refusal 27)
unfolding computing
names_no_root_lem = (refl, refl, refl)

pub bad_sum : (begins (rights_of 1 0 0) ≡ refusal 27) × (begins (rights_of 1 0 8) ≡ refusal 27) × (begins (rights_of 1 0 65535) ≡ refusal 27)
unfolding computing
bad_sum = (refl, refl, refl)

pub repeats_pair_lem : (begins (rights_of 1 0 1 ++ rights_of 1 0 2) ≡ refusal 27)
    × (begins (rights_of 1 0 7 ++ rights_of 2 0 7 ++ rights_of 1 1 7 ++ rights_of 1 0 7) ≡ refusal 27)
unfolding computing
repeats_pair_lem = (refl, refl)

-- each sum from 1 to 7, a root with several societies, a society with several roots
pub good_rights : (begins (rights_of 1 0 1 ++ rights_of 1 1 2 ++ rights_of 2 0 3 ++ rights_of 2 1 4 ++ rights_of 3 0 5 ++ rights_of 3 1 6 ++ rights_of 4 0 7) ≡ done [])
    × (begins [] ≡ done [])
unfolding computing
good_rights = (refl, refl)

-- "at most 64 such records"
pub sixty_four : begins (many_rights 64) ≡ done []
unfolding computing
sixty_four = refl

pub sixty_fifth : begins (many_rights 65) ≡ refusal 27
unfolding computing
sixty_fifth = refl

-- 27 comes "after 25", and is "printed alone"
pub window_first : (begins (window_of 9 four five ++ rights_of 1 3 7) ≡ refusal 25) × (begins (window_of 0 four five ++ rights_of 1 3 7) ≡ refusal 27)
    × (begins (window_of 0 four five ++ rights_of 1 0 7) ≡ done [])
unfolding computing
window_first = (refl, refl, refl)

pub printed_alone : transcript main_terms (with_rights (rights_of 1 2 7)) (bytes_of (6 ∷ 17 ∷ 1 ∷ [])) ≡ ascii "R 27\n"
unfolding computing
printed_alone = refl

-- "after windows, before the end, in refusal 3's order too; length 10"
pub out_of_place : (read_plan rights_early ≡ turned_back 3) × (read_plan rights_last ≡ turned_back 7)
    × (begins (8 ∷ 6 ∷ 1 ∷ 0 ∷ []) ≡ refusal 4) × (begins (10 ∷ 7 ∷ 1 ∷ 0 ∷ 7 ∷ []) ≡ refusal 3)
unfolding computing
out_of_place = (refl, refl, refl, refl)
