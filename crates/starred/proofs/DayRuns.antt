-- Days on a plan with one window, from bytes and words: which days an event is taken on, which move nobody, which are refused, what the day's
-- words hold, and which window records are turned back. Each is proved by computing the definitions of the rules. Assumes nothing.
use mathlib.Core.Path.{◌≡◌, refl}
use mathlib.Core.List.{List, [], ◌∷◌, ◌++◌}
use Prim.Native.Nat.{ℕ}
use lib.IntN.{pos, ◌-ℤ◌}
use lib.ListN.{take, drop, replicate}
use Rattle.rules.specs.Names.{Day}
use Rattle.rules.specs.declared.Counts.{Counts}
use Rattle.rules.specs.Plan.{plan_of}
use Rattle.rules.specs.Acceptance.{accepted, turned_back, read_plan}
use Rattle.rules.specs.Setting.{main_terms}
use Rattle.rules.specs.Leading.{last_day, dated}
use Rattle.rules.specs.Call.{Answer, refusal, done, Call, event, signal, fire, begin_outcome, ready_outcome, call_outcome}
use Rattle.rules.specs.Text.{ascii}
use Rattle.rules.specs.Transcript.{transcript}
use Rattle.rules.specs.ReferenceRun.{words_after, answers_after}
use Rattle.starred.specs.SamplePlan.{bytes_of, lent_for}
use Rattle.starred.specs.WindowPlans.{window_of, before_all, earliest, minus_two, four, five, latest, after_all, with_windows, plan_d, window_last, window_early, chained}
use Rattle.starred.specs.Computing.{computing}

abbrev counts_d : Counts
counts_d = record { tracks = 1; states = 3; transitions = 2; windows = 1; grants = 1 }

-- so many days before day 0
abbrev minus : ℕ → Day
minus n = pos 0 -ℤ pos n

-- an event on a day, and on one before day 0
abbrev e : ℕ → ℕ → Call
e n day = event (record { event = n; day = pos day; society = 1 })

abbrev before : ℕ → ℕ → Call
before n days = event (record { event = n; day = minus days; society = 1 })

abbrev s : Call
s = signal (record { society = 1 })

abbrev f : Call
f = fire (record { track = 0; society = 1 })

abbrev answers : List Call → List Answer
answers cs = answers_after main_terms plan_d (lent_for 1) cs

abbrev words : List Call → List ℕ
words cs = words_after main_terms plan_d (lent_for 1) cs

-- the day's words, low word first
abbrev day_words : List Call → List ℕ
day_words cs = take 2 (drop 2 (words cs))

-- the plan as it is read
pub reads-D : (read_plan plan_d ≡ accepted counts_d)
    × ((plan_of plan_d counts_d).windows ≡ record { transition = 0; first = minus 2; last = pos 5 } ∷ [])
unfolding computing
reads-D = (refl, refl)

-- "begin writes -109573"
pub begin_writes : (day_words [] ≡ 21499 ∷ 65534 ∷ []) × (last_day (words []) ≡ minus 109573)
unfolding computing
begin_writes = (refl, refl)

-- "from first to last inclusive"
pub first_day_lem : answers (before 1 2 ∷ []) ≡ done (1 ∷ 0 ∷ []) ∷ []
unfolding computing
first_day_lem = refl

pub last_day_lem : answers (e 1 5 ∷ []) ≡ done (1 ∷ 0 ∷ []) ∷ []
unfolding computing
last_day_lem = refl

-- "outside, that track ignores the event": accepted, and its day is the last accepted one
pub day_before : (answers (before 1 3 ∷ []) ≡ done (0 ∷ 0 ∷ []) ∷ []) × (day_words (before 1 3 ∷ []) ≡ 65533 ∷ 65535 ∷ [])
unfolding computing
day_before = (refl, refl)

pub day_after_lem : (answers (e 1 6 ∷ []) ≡ done (0 ∷ 0 ∷ []) ∷ []) × (day_words (e 1 6 ∷ []) ≡ 6 ∷ 0 ∷ [])
unfolding computing
day_after_lem = (refl, refl)

-- a day later it is taken; a transition without a window is taken on any day
pub then_taken : answers (before 1 3 ∷ before 1 2 ∷ e 2 182620 ∷ []) ≡ done (0 ∷ 0 ∷ []) ∷ done (1 ∷ 0 ∷ []) ∷ done (1 ∷ 0 ∷ []) ∷ []
unfolding computing
then_taken = refl

-- an equal day is taken, "before the last" is 26
pub same_day : answers (e 1 3 ∷ e 2 3 ∷ []) ≡ done (1 ∷ 0 ∷ []) ∷ done (1 ∷ 0 ∷ []) ∷ []
unfolding computing
same_day = refl

pub falls : answers (e 1 3 ∷ e 2 2 ∷ []) ≡ done (1 ∷ 0 ∷ []) ∷ refusal 26 ∷ []
unfolding computing
falls = refl

-- "the event's day is out of range", at either end
pub earliest_day_lem : answers (before 1 109574 ∷ before 1 109573 ∷ []) ≡ refusal 26 ∷ done (0 ∷ 0 ∷ []) ∷ []
unfolding computing
earliest_day_lem = refl

pub latest_day_lem : answers (e 1 182621 ∷ e 1 182620 ∷ []) ≡ refusal 26 ∷ done (0 ∷ 0 ∷ []) ∷ []
unfolding computing
latest_day_lem = refl

-- 26 comes "after 19", and before 20
pub event_zero_first : answers (e 0 182621 ∷ []) ≡ refusal 19 ∷ []
unfolding computing
event_zero_first = refl

pub before_over : answers (e 1 3 ∷ e 2 3 ∷ e 1 2 ∷ e 1 182621 ∷ e 1 3 ∷ s ∷ [])
    ≡ done (1 ∷ 0 ∷ []) ∷ done (1 ∷ 0 ∷ []) ∷ refusal 26 ∷ refusal 26 ∷ refusal 20 ∷ refusal 20 ∷ []
unfolding computing
before_over = refl

-- "soundness asks a day in range", of an over ledger too
abbrev signalled : Day → List Call → Answer
signalled day cs = (call_outcome main_terms plan_d (dated day (words cs)) s).answer

pub day_in_range : (signalled (minus 109574) [] ≡ refusal 18)
    × (signalled (minus 109573) [] ≡ done (1 ∷ []))
    × (signalled (pos 182620) [] ≡ done (1 ∷ []))
    × (signalled (pos 182621) [] ≡ refusal 18)
    × ((ready_outcome main_terms plan_d (dated (pos 182621) (words []))).answer ≡ refusal 18)
unfolding computing
day_in_range = (refl, refl, refl, refl, refl)

pub over_in_range : (signalled (minus 109574) (e 1 3 ∷ e 2 3 ∷ []) ≡ refusal 18)
    × (signalled (pos 182620) (e 1 3 ∷ e 2 3 ∷ []) ≡ refusal 20)
    × (signalled (pos 182621) (e 1 3 ∷ e 2 3 ∷ []) ≡ refusal 18)
unfolding computing
over_in_range = (refl, refl, refl)

-- signals and firings leave the day's words, refused events leave all words
pub day_stays : (answers (e 1 3 ∷ s ∷ f ∷ []) ≡ done (1 ∷ 0 ∷ []) ∷ done (1 ∷ []) ∷ done (50 ∷ 65535 ∷ []) ∷ [])
    × (day_words (e 1 3 ∷ s ∷ []) ≡ 3 ∷ 0 ∷ []) × (day_words (e 1 3 ∷ s ∷ f ∷ []) ≡ 3 ∷ 0 ∷ [])
unfolding computing
day_stays = (refl, refl, refl)

-- the words after an event on day 3 that moves, and after the one that finishes
abbrev moved : List ℕ
moved = take 2 (words []) ++ (3 ∷ 0 ∷ 1 ∷ 1 ∷ 1 ∷ 50 ∷ 65535 ∷ replicate 62 0) ++ replicate 2 7

abbrev over : List ℕ
over = take 2 (words []) ++ (3 ∷ 0 ∷ replicate 67 0) ++ replicate 2 7

pub refused_leaves : (words (e 1 3 ∷ []) ≡ moved) × (words (e 1 3 ∷ e 2 2 ∷ []) ≡ moved) × (words (e 1 3 ∷ e 2 182621 ∷ []) ≡ moved)
    × (words (e 1 3 ∷ e 0 4 ∷ []) ≡ moved) × (words (e 1 3 ∷ e 2 3 ∷ []) ≡ over) × (words (e 1 3 ∷ e 2 3 ∷ e 1 4 ∷ []) ≡ over)
unfolding computing
refused_leaves = (refl, refl, refl, refl, refl, refl)

-- 25 "a window names no transition, repeats one, ends before it begins or leaves the day range"
abbrev begins : List ℕ → Answer
begins windows = (begin_outcome main_terms (with_windows windows) (lent_for 1)).answer

pub names_none : begins (window_of 2 four five) ≡ refusal 25
unfolding computing
names_none = refl

pub repeats_one : begins (window_of 0 minus_two four ++ window_of 0 five five) ≡ refusal 25
unfolding computing
repeats_one = refl

pub ends_early : (begins (window_of 0 five four) ≡ refusal 25) × (begins (window_of 0 four minus_two) ≡ refusal 25)
unfolding computing
ends_early = (refl, refl)

pub leaves_range : (begins (window_of 0 before_all four) ≡ refusal 25) × (begins (window_of 0 four after_all) ≡ refusal 25)
unfolding computing
leaves_range = (refl, refl)

-- one day is a window, so is the whole range, and each transition may have one
pub good_windows : (begins (window_of 0 four four) ≡ done []) × (begins (window_of 1 earliest latest ++ window_of 0 four five) ≡ done [])
unfolding computing
good_windows = (refl, refl)

-- 25 comes "after 16"
pub height_first : (read_plan (chained 9) ≡ turned_back 16) × (read_plan (chained 8) ≡ turned_back 25)
unfolding computing
height_first = (refl, refl)

-- "the end, which keeps kind 4 and stays last": bytes after it are 7, and "refusal 3 reads this order"
pub out_of_place : (read_plan window_last ≡ turned_back 7) × (read_plan window_early ≡ turned_back 3)
unfolding computing
out_of_place = (refl, refl)

-- "Journals use kind 20, length 10: event, then day", and the society last
pub journal_days : transcript main_terms plan_d
    (bytes_of (12 ∷ 20 ∷ 1 ∷ 65533 ∷ 65535 ∷ 1 ∷ 12 ∷ 20 ∷ 1 ∷ 65534 ∷ 65535 ∷ 1 ∷ 12 ∷ 20 ∷ 2 ∷ 65533 ∷ 65535 ∷ 1 ∷ 6 ∷ 17 ∷ 1 ∷ 6 ∷ 19 ∷ 1 ∷ []))
    ≡ ascii "PLAN 1 3 2\nE 1 0 0\nE 1 1 0\nR 26\nS 1\nF 0 50 -\nH 0 1\n"
unfolding computing
journal_days = refl

-- "kind 16 is withdrawn"
pub kind_withdrawn : transcript main_terms plan_d (bytes_of (6 ∷ 16 ∷ 1 ∷ [])) ≡ ascii "PLAN 1 3 2\nR 23\nH 0 0\n"
unfolding computing
kind_withdrawn = refl

-- 25 is "printed alone as 16 is"
pub printed_alone : transcript main_terms (with_windows (window_of 2 four five)) (bytes_of (6 ∷ 17 ∷ 1 ∷ [])) ≡ ascii "R 25\n"
unfolding computing
printed_alone = refl
