-- From the choice to the call's outcome: 21 or the step where the ledger is going, and before that 19, 26, 20 and 28. Assumes nothing.
use Rattle.std.proofs.Common.{◌≡◌, refl, sym, ap, ap₂, ◌∙◌, subst, Bool, true, false, cond, not, List, [], ◌∷◌, ℕ, zero, suc, ◌<◌, eqb, eq-eqb, ne_eqb, arith}
use lib.Signed.{mag, lt_z}
use borrow.Author.Tests.{not-true, not-false}
use Rattle.rules.specs.Names.{Day}
use Rattle.rules.specs.Day.{is_day}
use Rattle.rules.specs.declared.Counts.{Counts}
use Rattle.rules.specs.declared.EventAnswer.TheVariants.{Moved, Refused}
use Rattle.rules.specs.Fold.{count_below, first_refusal}
use Rattle.rules.specs.Plan.{Plan, plan_of, track_count}
use Rattle.rules.specs.Rights.{move_right, holds_somewhere}
use Rattle.rules.specs.Leading.{last_day, dated}
use Rattle.rules.specs.Ledger.{Ledger, ledger_at, written}
use Rattle.rules.specs.Scope.{is_over}
use Rattle.rules.specs.Event.{EventArguments, moves, moved, closings, is_full, after_event}
use Rattle.rules.specs.Call.{Answer, done, Outcome, event, Meets, refused_or, under_plan, call_refusals, figures, after, dated_by, bad_day, call_outcome, event_outcome}
use Rattle.rules.specs.Answers.{event_told}
use Rattle.rules.specs.declared.Refusal.{Refusal}
use Rattle.rules.specs.Refusals.{number_of, refusal_number}
use Rattle.std.specs.Prelude.{Result, Err}
use Rattle.rules.proofs.Tests.{passed}
use Rattle.rules.proofs.LedgerChecks.{unless_refused, passes_first}
use Rattle.rules.proofs.Stored.{written_read}
use Rattle.rules.proofs.LeadingLaws.{dated_written}
use Rattle.rules.proofs.DayLaws.{good_day}
use Rattle.signed.proofs.Integers.{rd, read_back, read_lt}
use Rattle.plan.proofs.FieldLaws.{track_count_lem}
use Rattle.ledger.specs.Ladder.{Checked, Going, ledger_of}
use Rattle.lookup.proofs.Facts.{checked_passes, plan_facts, live_of_going, tidy_words, beyond}
use Rattle.event_choice.specs.declared.Choice.{Choice}
use Rattle.rules.specs.declared.Terms.{Terms}
use Rattle.event_choice.specs.Chosen.{arguments_of, Chosen}
use Rattle.event_choice.proofs.Still.{no_moves, after_same, still_closings}
use Rattle.event_step.specs.Outcome.{early_refusal, going_outcome}

-- no refusal has the number 0
not_zero : (r : Refusal) → number_of r ≡ 0 → ⊥
not_zero r e = grind (arith, e)

met : {o : Outcome} {a : Answer} {w : List ℕ} → o ≡ record { answer = a; words = w } → Meets o a w
met e = record { answered = ap (λ (x : Outcome). x.answer) (sym e); left = ap (λ (x : Outcome). x.words) (sym e) }

-- 26, as the code asks it
module _ (last day : Day) (h : mag day < 2147483648) {b : Bool} (e : b ≡ is_day (rd day)) where
  pub no_day : not b ≡ true → true ≡ bad_day last day
  unfolding bad_day
  no_day n = rw (← read_back day h, ← e, not-true b n)

  pub day_order : not b ≡ false → {z : Day} → mag z < 2147483648 → z ≡ last → lt_z (rd day) (rd z) ≡ bad_day last day
  unfolding bad_day
  day_order n {z} k f = read_lt day z h k ∙ (let q : is_day day ≡ true = ap is_day (sym (read_back day h)) ∙ sym e ∙ not-false b n in rw (q, f))

-- a day as it was given, where the machine reads it back
pub dated_with : (u : List ℕ) {x y : Day} → x ≡ y → {v : List ℕ} → v ≡ dated x u → v ≡ dated y u
dated_with u e q = q ∙ ap (λ z. dated z u) e

-- a ledger that is going: the choice for this event
module _ (terms : Terms) (bs : List ℕ) (c : Counts) (ws : List ℕ) (g : Going terms bs c ws) (e : EventArguments) {r : Choice}
    (h : Chosen terms (plan_of bs c) (ledger_of terms c ws) r × (arguments_of r ≡ e)) where
  abbrev p : Plan
  p = plan_of bs c

  abbrev l : Ledger
  l = ledger_of terms c ws

  outcome : Ledger → Outcome
  outcome x =
      refused_or ws
      (record { answer = done (figures p x (event e)); words = written terms (track_count p) (after_event p x e) (dated e.day ws) })
      (first_refusal ((21, is_full p terms x e) ∷ []))

  as_read : going_outcome terms p ws e ≡ outcome l
  unfolding going_outcome outcome ledger_of
  as_read = ap outcome (ap (ledger_at terms ws) (track_count_lem bs c))

  full : is_full p terms l e ≡ r.full
  full = ap (is_full p terms l) (sym h.1) ∙ sym h.0.full

  pub full_refused : r.full ≡ true → Meets (going_outcome terms p ws e) (event_told (Refused 21)) ws
  unfolding refused_or first_refusal event_told outcome
  full_refused z = met (as_read ∙ (rw (full ∙ z)))

  module _ (z : r.full ≡ false) where
    count : count_below (track_count p) (moves p l e) ≡ r.moved
    count = ap (λ i. count_below (track_count p) (moves p l i)) (sym h.1) ∙ sym h.0.many_moved

    -- the day is written after the tracks, or before them
    put_last : {u v : List ℕ} → v ≡ dated r.asked.day u → u ≡ written terms c.tracks (after_event p l e) ws
        → written terms (track_count p) (after_event p l e) (dated e.day ws) ≡ v
    put_last {u} {v} d w =
        ap (λ n. written terms n (after_event p l e) (dated e.day ws)) (track_count_lem bs c)
        ∙ sym (dated_written e.day terms c.tracks (after_event p l e) ws g.checked.lent.room.words)
        ∙ ap₂ dated (ap (λ (a : EventArguments). a.day) (sym h.1)) (sym w) ∙ sym d

    pub step_met : {u v : List ℕ} → u ≡ written terms c.tracks (after_event p l (arguments_of r)) ws → v ≡ dated r.asked.day u
        → Meets (going_outcome terms p ws e) (event_told (Moved r.moved r.closed)) v
    unfolding refused_or first_refusal figures event_told outcome
    step_met w d =
        let left = put_last d (w ∙ ap (λ a. written terms c.tracks (after_event p l a) ws) h.1) in
        let j : closings p (moved p l e) ≡ r.closed = ap (λ i. closings p (moved p l i)) (sym h.1) ∙ sym h.0.many_closed in
        met (as_read ∙ (rw (full ∙ z) (λ k. record { answer = done (count k ∷ j k ∷ []); words = left k })))

    -- where no track moves nothing changes but the day
    pub still_met : {v : List ℕ} → r.moved ≡ 0 → v ≡ dated r.asked.day ws → Meets (going_outcome terms p ws e) (event_told (Moved 0 0)) v
    unfolding refused_or first_refusal figures event_told outcome
    still_met y d =
        let still = no_moves p l e (beyond terms bs c ws) (count ∙ y) in
        let ok = plan_facts bs c g.checked.lent.accepts in
        let live = live_of_going terms bs c ws g in
        let j = still_closings p l e ok live still in
        let left = put_last d (sym (ap (λ m. written terms c.tracks m ws) (after_same p l e ok live still) ∙ unchanged)) in
        met (as_read ∙ (rw (full ∙ z) (λ k. record { answer = done ((count ∙ y) k ∷ j k ∷ []); words = left k })))
      where
        unchanged : written terms c.tracks l ws ≡ ws
        unchanged = unfold ledger_of in written_read terms c.tracks ws (tidy_words terms bs c ws g.checked).tidy g.checked.lent.room.words

-- the refusals before the moves are chosen, as the code asks them
module _ (p : Plan) (last : Day) (l : Ledger) (e : EventArguments) where
  pub early_zero : e.event ≡ 0 → 19 ≡ early_refusal p last l e
  unfolding early_refusal first_refusal
  early_zero z = rw (eq-eqb e.event 0 z)

  module _ (n : e.event ≡ 0 → ⊥) {b : Bool} (d : b ≡ bad_day last e.day) where
    pub early_day : b ≡ true → 26 ≡ early_refusal p last l e
    unfolding early_refusal first_refusal
    early_day z = rw (ne_eqb e.event 0 n, sym d ∙ z)

    module _ (on : b ≡ false) {r : Bool} (q : r ≡ is_over p l) where
      pub early_over : r ≡ true → 20 ≡ early_refusal p last l e
      unfolding early_refusal first_refusal
      early_over z = rw (ne_eqb e.event 0 n, sym d ∙ on, sym q ∙ z)

      module _ (going : r ≡ false) {h : Bool} (k : h ≡ holds_somewhere p move_right e.society) where
        pub early_lacks : not h ≡ true → 28 ≡ early_refusal p last l e
        unfolding early_refusal first_refusal
        early_lacks z = rw (ne_eqb e.event 0 n, sym d ∙ on, sym q ∙ going, ← k, z)

        pub early_none : not h ≡ false → 0 ≡ early_refusal p last l e
        unfolding early_refusal first_refusal
        early_none z = rw (ne_eqb e.event 0 n, sym d ∙ on, sym q ∙ going, ← k, z)

  -- where none applies the day is in range, and the ledger is not over
  pub early_passed : early_refusal p last l e ≡ 0 → (is_day e.day ≡ true) × (is_over p l ≡ false)
  unfolding early_refusal first_refusal
  early_passed z =
      let (a, y) = passed (eqb e.event 0) 18 _ z in
      let (b, x) = passed (bad_day last e.day) 25 _ y in
      ((good_day last e.day b).0, (passed (is_over p l) 19 _ x).0)

pub day_asked : (last : Day) {x y : Day} → x ≡ y → {b : Bool} → b ≡ bad_day last x → b ≡ bad_day last y
day_asked last e q = q ∙ ap (bad_day last) e

-- the choice is of a day in range
pub choice_day : (r : Choice) {e : EventArguments} → arguments_of r ≡ e → is_day e.day ≡ true → is_day r.asked.day ≡ true
choice_day r q h = ap (λ (x : EventArguments). is_day x.day) q ∙ h

-- the call's outcome by them: a refusal before others decides
module _ (terms : Terms) (bs : List ℕ) (c : Counts) (ws : List ℕ) (h : Checked terms bs c ws) (e : EventArguments) where
  abbrev early : ℕ
  early = early_refusal (plan_of bs c) (last_day ws) (ledger_of terms c ws) e

  four : (a b o h : Bool) (n : ℕ) → cond a 19 (cond b 26 (cond o 20 (cond h 28 n))) ≡ unless_refused (cond a 19 (cond b 26 (cond o 20 (cond h 28 0)))) n
  unfolding unless_refused
  four true b o h n = refl
  four false true o h n = refl
  four false false true h n = refl
  four false false false true n = refl
  four false false false false n = refl

  abbrev lacks : Bool
  lacks = not (holds_somewhere (plan_of bs c) move_right e.society)

  abbrev read : Ledger
  read = ledger_at terms ws (track_count (plan_of bs c))

  abbrev later : ℕ
  later = first_refusal ((21, is_full (plan_of bs c) terms read e) ∷ [])

  abbrev answered : ℕ → Outcome
  answered =
      refused_or ws
      (record {
        answer = done (figures (plan_of bs c) read (event e));
        words = written terms (track_count (plan_of bs c)) (after_event (plan_of bs c) read e) (dated e.day ws);
      })

  plain : event_outcome terms bs ws e
      ≡ answered (cond (eqb e.event 0) 19 (cond (bad_day (last_day ws) e.day) 26 (cond (is_over (plan_of bs c) read) 20 (cond lacks 28 later))))
  unfolding event_outcome call_outcome under_plan call_refusals first_refusal after dated_by
  plain = rw (h.lent.accepts.read, under_plan, passes_first terms bs (plan_of bs c) ws (checked_passes terms bs c ws h))

  by_counts : early_refusal (plan_of bs c) (last_day ws) read e ≡ early
  unfolding ledger_of
  by_counts = ap (λ n. early_refusal (plan_of bs c) (last_day ws) (ledger_at terms ws n) e) (track_count_lem bs c)

  checked : event_outcome terms bs ws e ≡ answered (unless_refused early later)
  unfolding early_refusal first_refusal
  checked =
      plain
      ∙ ap answered
      (four (eqb e.event 0) (bad_day (last_day ws) e.day) (is_over (plan_of bs c) read) lacks later ∙ ap (λ n. unless_refused n later) by_counts)

  refused : (r : ℕ) → r ≡ early → (r ≡ 0 → ⊥) → Meets (event_outcome terms bs ws e) (event_told (Refused r)) ws
  unfolding refused_or event_told unless_refused
  refused zero q n = absurd (n refl)
  refused (suc r) q n = met (checked ∙ (rw (← q)))

  pub event_refused : {k : ℕ} {r : Refusal} → k ≡ number_of r → {x : Result (Unit {0}) Refusal} → x ≡ Err r → refusal_number x ≡ early
      → Meets (event_outcome terms bs ws e) (event_told (Refused k)) ws
  event_refused {k} {r} n x q = refused k (n ∙ sym (ap refusal_number x) ∙ q) (λ z. not_zero r (sym n ∙ z))

  module _ (z : early ≡ 0) where
    pub going_of : Going terms bs c ws
    going_of = record { checked = h; goes_on = (early_passed (plan_of bs c) (last_day ws) (ledger_of terms c ws) e z).1 }

    pub event_going : (x : EventArguments) (a : Answer) (v : List ℕ) → x ≡ e → Meets (going_outcome terms (plan_of bs c) ws x) a v
        → Meets (event_outcome terms bs ws e) a v
    unfolding going_outcome unless_refused
    event_going x a v f =
        let s : event_outcome terms bs ws e ≡ going_outcome terms (plan_of bs c) ws e = checked ∙ (rw z) in
        subst (λ (y : Outcome). Meets y a v) (ap (going_outcome terms (plan_of bs c) ws) f ∙ sym s)

-- an event's outcome on its day as it was given, where the machine reads it back
pub on_day : (terms : Terms) (bs ws : List ℕ) (e o : ℕ) {x y : Day} {a : Answer} {v : List ℕ} → x ≡ y
    → Meets (event_outcome terms bs ws (record { event = e; day = x; society = o })) a v
    → Meets (event_outcome terms bs ws (record { event = e; day = y; society = o })) a v
on_day terms bs ws e o {a = a} {v = v} q = subst (λ d. Meets (event_outcome terms bs ws (record { event = e; day = d; society = o })) a v) q
