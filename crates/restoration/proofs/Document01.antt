-- Document 01's rules are an instance of the seams: the parameters are the rules' own functions, and each law follows from their text. The
-- theory itself unfolds nothing that a later request may change. Assumes nothing.
use mathlib.Core.Path.{◌≡◌, refl, ap, ◌∙◌, fun_ext}
use mathlib.Core.Logic.{inl, inr}
use mathlib.Core.Bool.{Bool, true, false, not, ◌&&◌, ◌||◌}
use mathlib.Core.List.{◌++◌}
use mathlib.Core.Option.{Option, none, some}
use Prim.Native.Nat.{ℕ, zero, suc}
use lib.ListN.{length}
use lib.Dec.{eqb, leb}
use borrow.Author.Tests.{ne_eqb, not-false, leb-false}
use Rattle.rules.specs.Names.{Day}
use Rattle.rules.specs.declared.Terms.{Terms}
use Rattle.rules.specs.Day.{earliest_day}
use Rattle.rules.specs.Fold.{first_refusal}
use Rattle.rules.specs.Plan.{Plan, track_count, no_state, replacement, transition_for, may_take}
use Rattle.rules.specs.Rights.{move_right, signal_right, is_permitted, holds_somewhere}
use Rattle.rules.specs.Ledger.{Configuration, Ledger}
use Rattle.rules.specs.Scope.{is_over}
use Rattle.rules.specs.Opening.{enter}
use Rattle.rules.specs.Event as rule-event
use Rattle.rules.specs.Event.{EventArguments, has_code, move, moved, closed, is_replaced, is_full, after_event}
use Rattle.rules.specs.Finish.{is_finishing, finished}
use Rattle.rules.specs.Signal as rule-signal
use Rattle.rules.specs.Signal.{abandoned, after_signal}
use Rattle.rules.specs.Fire.{may_fire, fired, after_fire}
use Rattle.rules.specs.Call as call
use Rattle.rules.specs.Call.{SignalArguments, FireArguments, bad_day, lacks_fire_right, call_refusals, call_refusal, after, day_after, next, next_day}
use Rattle.rules.specs.FinishedRun.{taken, moves_below, moves_of}
use Rattle.rules.proofs.Tests.{clash, passed}
use Rattle.rules.proofs.Folds.{some_not}
use Rattle.rules.proofs.Acceptance.{transition_for_lem}
use Rattle.rules.proofs.Moves.{mover_is}
use Rattle.rules.proofs.RightsLaws.{permitted_up}
use Rattle.rules.proofs.Closing as closing
use Rattle.rules.proofs.Finishing.{goes_on, finish_cases}
use Rattle.theory.specs.Seams.{Seams, CallOf, event, signal, fire, installed, installed_by, install, recorded, goes, change_of, turned, work}
use Rattle.theory.proofs.Composition.{when, join}
use Rattle.theory.proofs.Laws.{Takes, Settled, Spare, Laws, Unfinished}

-- The rules' calls, as the theory's.
abbrev Calls : Type 0
Calls = CallOf EventArguments SignalArguments FireArguments

abbrev pub as_rules : CallOf EventArguments SignalArguments FireArguments → call.Call
as_rules (event a) = call.event a
as_rules (signal a) = call.signal a
as_rules (fire a) = call.fire a

abbrev pub as_theory : call.Call → CallOf EventArguments SignalArguments FireArguments
as_theory (call.event a) = event a
as_theory (call.signal a) = signal a
as_theory (call.fire a) = fire a

pub there_and_back : (c : call.Call) → as_rules (as_theory c) ≡ c
there_and_back (call.event a) = refl
there_and_back (call.signal a) = refl
there_and_back (call.fire a) = refl

-- A change is named by its transition, a retraction by its code; a signal turns the forward tracks for which its society has the right; finish
-- is looked for after every call; the leading words hold the last accepted day.
abbrev pub document01 : Seams
document01 =
    record {
      Event = EventArguments;
      Signal = SignalArguments;
      Firing = FireArguments;
      track = λ a. a.track;
      move = move;
      moved = moved;
      entry = λ a c d. record { code = c; deviation = d };
      closed = λ p l a. closed p l;
      Change = ℕ;
      change = λ a x. x;
      moves_of = moves_of;
      Retraction = ℕ;
      retraction = λ e. e.code;
      is_turned = λ p a t. is_permitted p signal_right a.society t;
      is_finishing = is_finishing;
      looks_for_finish = λ c. true;
      Head = Day;
      first_head = λ p. earliest_day;
      next_head = λ terms p d l c. next_day terms p d l (as_rules c);
      refusal = λ terms p d l c. call_refusal terms p d l (as_rules c);
      next = λ terms p d l c. next terms p d l (as_rules c);
    }

-- Moves.
module _ (p : Plan) (l : Ledger) (a : EventArguments) where
  pub move_takes : (t x : ℕ) → move p l a t ≡ some x → Takes p l t x
  move_takes t x h =
      let m = mover_is p l a t x h in
      let (r, s, v) = transition_for_lem p (l t).state a.event x m.taken in
      record { forward = m.ahead; free = m.free; real = r; from = s }

  -- the transition is the state's for the event, and the day is one of every window that names it; the society has the right
  pub move_for : (t x : ℕ) → move p l a t ≡ some x → transition_for p (l t).state a.event ≡ some x
  move_for t x h = (mover_is p l a t x h).taken

  pub move_day : (t x : ℕ) → move p l a t ≡ some x → may_take p a.day x ≡ true
  move_day t x h = (mover_is p l a t x h).on_day

  pub move_permitted : (t x : ℕ) → move p l a t ≡ some x → is_permitted p move_right a.society t ≡ true
  move_permitted t x h = (mover_is p l a t x h).permitted

-- Entries are those of the rules.
same_installed : (a : EventArguments) (c d : ℕ) (k : Configuration) → rule-event.installed c d k ≡ installed (document01.entry a) c d k
unfolding rule-event.installed rule-event.install installed install
same_installed a c d k = refl

pub same_by : (a : EventArguments) (p : Plan) (o : Option ℕ) (k : Configuration) → rule-event.installed_by p o k ≡ installed_by (document01.entry a) p o k
unfolding rule-event.installed_by installed_by
same_by a p none k = refl
same_by a p (some x) k = same_installed a _ _ k

moved_is : (p : Plan) (l : Ledger) (a : EventArguments) → moved p l a ≡ enter p (goes document01 p l a) (recorded document01 p l a)
unfolding moved
moved_is p l a = ap (enter p (goes document01 p l a)) (fun_ext (λ t. same_by a p (move p l a t) (l t)))

-- The changes of an event, as a word for each track.
moves_below_join : (p : Plan) (S : ℕ → Bool) (l : Ledger) (a : EventArguments) (n : ℕ)
    → moves_below p n S l a ≡ join n (λ t. when (S t) (taken (move p l a t)))
unfolding moves_below join
moves_below_join p S l a zero = refl
moves_below_join p S l a (suc n) = ap (λ w. w ++ when (S n) (taken (move p l a n))) (moves_below_join p S l a n)

same_taken : (a : EventArguments) (o : Option ℕ) → taken o ≡ change_of document01 a o
unfolding taken change_of
same_taken a none = refl
same_taken a (some x) = refl

moves_are : (p : Plan) (S : ℕ → Bool) (l : Ledger) (a : EventArguments)
    → moves_of p S l a ≡ join (track_count p) (λ t. when (S t) (change_of document01 a (move p l a t)))
unfolding moves_of
moves_are p S l a =
    moves_below_join p S l a (track_count p)
    ∙ ap (join (track_count p)) (fun_ext (λ t. ap (when (S t)) (same_taken a (move p l a t))))

-- Settling: every call ends with finish.
module _ (p : Plan) (l : Ledger) where
  pub turned_is : (a : SignalArguments) → rule-signal.turned p a.society l ≡ turned document01 p l a
  unfolding rule-signal.turned
  turned_is a = refl

  ends : (m k : Ledger) → k ≡ finished p m → Settled document01 p true m k
  ends m k q = elim (finish_cases p m) [ inl f ↦ inl (q ∙ f.0, λ h. f.1) | inr o ↦ inr (λ t. ap (λ (x : Ledger). x t) q ∙ o t) ]

-- Refusals; the day is the last accepted one.
module _ (terms : Terms) (p : Plan) (d : Day) (l : Ledger) where
  pub next_accepted : (c : call.Call) → call_refusal terms p d l c ≡ 0 → next terms p d l c ≡ after p l c
  unfolding next
  next_accepted c h = rw h

  pub next_refused : (c : call.Call) → (call_refusal terms p d l c ≡ 0 → ⊥) → next terms p d l c ≡ l
  unfolding next
  next_refused c h = rw (ne_eqb (call_refusal terms p d l c) 0 h)

  pub day_accepted : (c : call.Call) → call_refusal terms p d l c ≡ 0 → next_day terms p d l c ≡ day_after d c
  unfolding next_day
  day_accepted c h = rw h

  pub day_refused : (c : call.Call) → (call_refusal terms p d l c ≡ 0 → ⊥) → next_day terms p d l c ≡ d
  unfolding next_day
  day_refused c h = rw (ne_eqb (call_refusal terms p d l c) 0 h)

  settled : (c : Calls) → call_refusal terms p d l (as_rules c) ≡ 0 → Settled document01 p true (work document01 p l c) (next terms p d l (as_rules c))
  unfolding after after_event after_signal after_fire
  settled (event a) z = ends p l (closed p (moved p l a)) _ (next_accepted (call.event a) z)
  settled (signal a) z =
      ends p l (abandoned p (turned document01 p l a)) _
      (next_accepted (call.signal a) z ∙ ap (λ (m : Ledger). finished p (abandoned p m)) (turned_is p l a))
  settled (fire a) z = ends p l (abandoned p (fired p l a.track)) _ (next_accepted (call.fire a) z)

  -- 21 leaves room for an entry
  has_spare : (a : EventArguments) → is_full p terms l a ≡ false → Spare document01 terms p l a
  unfolding is_full
  has_spare a r t b h =
      let f : ℕ → Bool = λ t. (has_code p (move p l a t) || is_replaced p (moved p l a) t) in
      let q = some_not (track_count p) (λ t. f t && leb terms.limit (length (l t).held)) r t b in
      let y : leb terms.limit (length (l t).held) ≡ false = rw h at q in
      leb-false terms.limit (length (l t).held) y

  pub record EventPassed (a : EventArguments) : Type 0 where
    pub day : bad_day d a.day ≡ false
    pub going : is_over p l ≡ false
    pub somewhere : holds_somewhere p move_right a.society ≡ true
    pub room : is_full p terms l a ≡ false

  pub event_passed : (a : EventArguments) → call_refusal terms p d l (call.event a) ≡ 0 → EventPassed a
  unfolding call_refusal call_refusals first_refusal
  event_passed a h =
      let (x, y) = passed (eqb a.event 0) 18 _ h in
      let (b, w) = passed (bad_day d a.day) 25 _ y in
      let (o, z) = passed (is_over p l) 19 _ w in
      let (r, v) = passed (not (holds_somewhere p move_right a.society)) 27 _ z in
      record { day = b; going = o; somewhere = not-false _ r; room = (passed (is_full p terms l a) 20 _ v).0 }

  pub event_accepted : (a : EventArguments) → call_refusal terms p d l (call.event a) ≡ 0
      → (is_over p l ≡ false) × (is_full p terms l a ≡ false)
  event_accepted a h = let q = event_passed a h in (q.going, q.room)

  -- 26 refused no accepted event
  pub event_day : (a : EventArguments) → call_refusal terms p d l (call.event a) ≡ 0 → bad_day d a.day ≡ false
  event_day a h = (event_passed a h).day

  signal_passed : (a : SignalArguments) → call_refusal terms p d l (call.signal a) ≡ 0
      → (is_over p l ≡ false) × (holds_somewhere p signal_right a.society ≡ true)
  unfolding call_refusal call_refusals first_refusal
  signal_passed a h =
      let (o, z) = passed (is_over p l) 19 _ h in
      (o, not-false _ (passed (not (holds_somewhere p signal_right a.society)) 27 _ z).0)

  pub signal_accepted : (a : SignalArguments) → call_refusal terms p d l (call.signal a) ≡ 0 → is_over p l ≡ false
  signal_accepted a h = (signal_passed a h).0

  -- 28 refused no accepted signal
  pub signal_somewhere : (a : SignalArguments) → call_refusal terms p d l (call.signal a) ≡ 0 → holds_somewhere p signal_right a.society ≡ true
  signal_somewhere a h = (signal_passed a h).1

  pub record FirePassed (a : FireArguments) : Type 0 where
    pub going : is_over p l ≡ false
    pub permitted : lacks_fire_right p a ≡ false
    pub may : may_fire p l a.track ≡ true

  pub fire_passed : (a : FireArguments) → call_refusal terms p d l (call.fire a) ≡ 0 → FirePassed a
  unfolding call_refusal call_refusals first_refusal
  fire_passed a h =
      let (o, w) = passed (is_over p l) 19 _ h in
      let (r, z) = passed (lacks_fire_right p a) 27 _ w in
      record { going = o; permitted = r; may = not-false (may_fire p l a.track) (passed (not (may_fire p l a.track)) 21 _ z).0 }

  pub fire_accepted : (a : FireArguments) → call_refusal terms p d l (call.fire a) ≡ 0 → (is_over p l ≡ false) × (may_fire p l a.track ≡ true)
  fire_accepted a h = let q = fire_passed a h in (q.going, q.may)

pub laws01 : Laws document01
laws01 =
    record {
      move_takes = move_takes;
      moved_is = moved_is;
      entry_code_lem = λ a c d. refl;
      entry_deviation_lem = λ a c d. refl;
      closed_asleep = λ p l a. closing.closed_asleep p l;
      closed_replaced = λ p l a t c o. closing.closed_replaced p l t c o ∙ same_installed a (replacement p (l t).state) no_state (l t);
      closed_kept = λ p l a. closing.closed_kept p l;
      moves_are = moves_are;
      turned_up = λ p ok a t h e. permitted_up p ok signal_right a.society t h e;
      goes_on = goes_on;
      settled = settled;
      refused = λ terms p d l c n. (next_refused terms p d l (as_rules c) n, day_refused terms p d l (as_rules c) n);
      event_accepted = λ terms p d l a z. let (o, r) = event_accepted terms p d l a z in (o, has_spare terms p d l a r);
      signal_accepted = signal_accepted;
      fire_accepted = fire_accepted;
    }

-- Finish is looked for after every call.
pub unfinished01 : Unfinished document01
unfinished01 terms p ok h l s c z n = clash refl n
