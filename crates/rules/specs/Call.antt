-- The calls: from the plan's bytes, the ledger's words and the arguments to the answer and the words afterwards. Assumes nothing.
use Rattle.std.specs.Prelude.{◌≡◌, Bool, cond, not, ◌&&◌, ◌||◌, List, [], ◌∷◌, ◌++◌, ℕ, zero, suc, ◌+◌, ◌*◌, length, take, drop, ltb, eqb}
use Rattle.std.specs.Int.Signed.{lt_z}
use Rattle.rules.specs.Names.{Bytes, Words, Place, Refusal, TrackNumber, Society, Day}
use Rattle.rules.specs.declared.Terms.{Terms}
use Rattle.rules.specs.Fold.{count_below, first_refusal}
use Rattle.rules.specs.Day.{is_day}
use Rattle.rules.specs.Plan.{Plan, track_count, plan_of}
use Rattle.rules.specs.Rights.{move_right, signal_right, fire_right, is_permitted, holds_somewhere}
use Rattle.rules.specs.Acceptance.{turned_back, accepted, read_plan}
use Rattle.rules.specs.Layout.{entry_width, entries_place, word_count}
use Rattle.rules.specs.Leading.{last_day, dated, stamped, other_plan}
use Rattle.rules.specs.Ledger.{Ledger, ledger_at, written}
use Rattle.rules.specs.Scope.{is_over}
use Rattle.rules.specs.Opening.{begun}
use Rattle.rules.specs.Event.{EventArguments, moves, moved, closings, is_full, after_event}
use Rattle.rules.specs.Signal.{turnings, after_signal}
use Rattle.rules.specs.Fire.{may_fire, newest, after_fire, ready}
use Rattle.rules.specs.Soundness.{is_sound}

-- "an answer is either the result with its figures or a refusal with its number and nothing else"
pub data Answer : Type 0 where
  refusal : Refusal → Answer
  done : List ℕ → Answer

-- an answer, and the lent words afterwards
pub record Outcome : Type 0 where
  pub answer : Answer
  pub words : Words

-- what each call is given beside the plan and the ledger; of an event, its arguments
pub record SignalArguments : Type 0 where
  pub society : Society

pub record FireArguments : Type 0 where
  pub track : TrackNumber
  pub society : Society

pub data Call : Type 0 where
  event : EventArguments → Call
  signal : SignalArguments → Call
  fire : FireArguments → Call

-- "Refused calls change no word."
unfoldable pub refused_or : Words → Outcome → Refusal → Outcome
refused_or ws o zero = o
refused_or ws o (suc r) = record { answer = refusal (suc r); words = ws }

-- under its plan: 2 to 16, 25 and 27, and then what the call does with the plan
unfoldable pub under_plan : Bytes → Words → (Plan → Outcome) → Outcome
under_plan bs ws f =
    elim (read_plan bs) [ turned_back r ↦ record { answer = refusal r; words = ws } | accepted c ↦ f (plan_of bs c) ]

-- "Answer: tracks moved, scopes closed"; "how many turned"; "code and deviation"
unfoldable pub figures : Plan → Ledger → Call → List ℕ
figures p l (event a) = count_below (track_count p) (moves p l a) ∷ closings p (moved p l a) ∷ []
figures p l (signal a) = turnings p a.society l ∷ []
figures p l (fire a) = (newest (l a.track).held).code ∷ (newest (l a.track).held).deviation ∷ []

-- the ledger after an accepted call
unfoldable pub after : Plan → Ledger → Call → Ledger
after p l (event a) = after_event p l a
after p l (signal a) = after_signal p l a.society
after p l (fire a) = after_fire p l a.track

-- the last accepted day after an accepted call, and the words with it: an event's own, and signals and firings carry none
unfoldable pub day_after : Day → Call → Day
day_after day (event a) = a.day
day_after day (signal a) = day
day_after day (fire a) = day

unfoldable pub dated_by : Call → Words → Words
dated_by (event a) ws = dated a.day ws
dated_by (signal a) ws = ws
dated_by (fire a) ws = ws

-- 26 "the event's day is out of range or before the last"
unfoldable pub bad_day : Day → Day → Bool
bad_day last day = not (is_day day) || lt_z day last

-- 28 "the society lacks the fire right for the named track, which exists"
unfoldable pub lacks_fire_right : Plan → FireArguments → Bool
lacks_fire_right p a = ltb a.track (track_count p) && not (is_permitted p fire_right a.society a.track)

-- `limit` is the most entries that a track holds
module _ (terms : Terms) where
  -- 17 "The ledger has too few words."
  unfoldable pub too_short : Plan → Words → Bool
  too_short p ws = ltb (length ws) (word_count terms (track_count p))

  -- 17, 24 "between 17 and 18", and 18 "The ledger is not sound."
  unfoldable pub ledger_refusals : Bytes → Plan → Words → List (Refusal × Bool)
  ledger_refusals bs p ws = (17, too_short p ws) ∷ (24, other_plan bs ws) ∷ (18, not (is_sound terms p ws)) ∷ []

  -- the first of them that applies, 0 where none does
  unfoldable pub ledger_refusal : Bytes → Plan → Words → Refusal
  ledger_refusal bs p ws = first_refusal (ledger_refusals bs p ws)

  -- 19 "The event given is 0." 26 "after 19". 20 "The ledger is over (event, signal, fire)." 28 "after 20", and for events and signals
  -- where the society "has the move or signal right nowhere for that call". 21 as under `is_full`.
  -- 22 "The track may not be fired, or does not exist." The day is the last accepted one
  unfoldable pub call_refusals : Plan → Day → Ledger → Call → List (Refusal × Bool)
  call_refusals p day l (event a) =
      (19, eqb a.event 0) ∷ (26, bad_day day a.day) ∷ (20, is_over p l)
      ∷ (28, not (holds_somewhere p move_right a.society)) ∷ (21, is_full p terms l a) ∷ []
  call_refusals p day l (signal a) = (20, is_over p l) ∷ (28, not (holds_somewhere p signal_right a.society)) ∷ []
  call_refusals p day l (fire a) = (20, is_over p l) ∷ (28, lacks_fire_right p a) ∷ (22, not (may_fire p l a.track)) ∷ []

  -- the first of them that applies to the ledger, 0 where the call is accepted
  unfoldable pub call_refusal : Plan → Day → Ledger → Call → Refusal
  call_refusal p day l c = first_refusal (call_refusals p day l c)

  -- the ledger and the last accepted day after a call, a refused one too
  unfoldable pub next : Plan → Day → Ledger → Call → Ledger
  next p day l c = cond (eqb (call_refusal p day l c) 0) (after p l c) l

  unfoldable pub next_day : Plan → Day → Ledger → Call → Day
  next_day p day l c = cond (eqb (call_refusal p day l c) 0) (day_after day c) day

  -- event, signal and fire
  unfoldable pub call_outcome : Bytes → Words → Call → Outcome
  call_outcome bs ws c =
      under_plan bs ws
      (λ p.
      let l : Ledger = ledger_at terms ws (track_count p) in
      refused_or ws
      (record { answer = done (figures p l c); words = written terms (track_count p) (after p l c) (dated_by c ws) })
      (first_refusal (ledger_refusals bs p ws ++ call_refusals p (last_day ws) l c)))

  unfoldable pub event_outcome : Bytes → Words → EventArguments → Outcome
  event_outcome bs ws a = call_outcome bs ws (event a)

  unfoldable pub signal_outcome : Bytes → Words → SignalArguments → Outcome
  signal_outcome bs ws a = call_outcome bs ws (signal a)

  unfoldable pub fire_outcome : Bytes → Words → FireArguments → Outcome
  fire_outcome bs ws a = call_outcome bs ws (fire a)

  -- "begin skips 18", and 24: it writes the leading words
  unfoldable pub begin_outcome : Bytes → Words → Outcome
  begin_outcome bs ws =
      under_plan bs ws
      (λ p.
      refused_or ws
      (record { answer = done []; words = written terms (track_count p) (begun p) (stamped bs ws) })
      (first_refusal ((17, too_short p ws) ∷ [])))

  -- Ready changes no word.
  unfoldable pub ready_outcome : Bytes → Words → Outcome
  ready_outcome bs ws =
      under_plan bs ws
      (λ p.
      refused_or ws
      (record { answer = done (ready p (ledger_at terms ws (track_count p)) ∷ []); words = ws })
      (ledger_refusal bs p ws))

  -- "the part of the caller's ledger that holds one track's pairs, those held and no unused ones"
  unfoldable pub held_part : Plan → Words → TrackNumber → Words
  held_part p ws t =
      take (entry_width * length (ledger_at terms ws (track_count p) t).held) (drop (entries_place terms t) ws)

  -- "the empty part if the plan or ledger is refused, the track does not exist, or it holds nothing"
  unfoldable pub entries_part : Bytes → Words → TrackNumber → Words
  entries_part bs ws t =
      elim (read_plan bs) [
        | turned_back r ↦ []
        | accepted c ↦
            cond (eqb (ledger_refusal bs (plan_of bs c) ws) 0 && ltb t (track_count (plan_of bs c)))
            (held_part (plan_of bs c) ws t) []
      ]

-- What Entries' contract promises: the words of the part handed back; where it lies, as a block of memory and an offset in bytes, a word
-- having two; and every lent word afterwards. "the part of the caller's ledger" starts at the track's first entry; only an empty part may
-- lie anywhere.
pub record HandsBack (terms : Terms) (bs : Bytes) (ws : Words) (t : TrackNumber) (ledger part : ℕ × Place) (held words : Words) : Type 0 where
  pub held_as : held ≡ entries_part terms bs ws t
  pub block : (held ≡ [] → ⊥) → part.0 ≡ ledger.0
  pub place : (held ≡ [] → ⊥) → part.1 ≡ ledger.1 + entries_place terms t * 2
  pub left : words ≡ ws

-- What a call's contract promises of its answer, as the paper tells it, and of every lent word afterwards.
pub record Meets (o : Outcome) (told : Answer) (words : Words) : Type 0 where
  pub answered : told ≡ o.answer
  pub left : words ≡ o.words
