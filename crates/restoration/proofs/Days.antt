-- Days, for every plan: along any list of calls the last accepted day never falls, and after an accepted begin it is in range; an accepted event
-- leaves its own day, signals, firings and refused calls leave the day as it was; and a track takes a transition exactly on the days of every
-- window that names it. 26 lets no day fall, and the words follow the rules' day call by call. Assumes nothing.
use mathlib.Core.Path.{◌≡◌, refl, sym, ap, ◌∙◌, subst}
use mathlib.Core.Logic.{◌⊎◌, inl, inr}
use mathlib.Core.Bool.{true, false, not, ◌||◌}
use mathlib.Core.List.{List, [], ◌∷◌, ◌++◌}
use mathlib.Core.Option.{none, some}
use Prim.Native.Nat.{ℕ, zero, suc, ◌<◌}
use native.Mathlib.Omega.{arith}
use lib.Dec.{eqb}
use lib.Signed.{le_z}
use borrow.Author.Tests.{eqb-true}
use Rattle.rules.specs.declared.Counts.{Counts}
use Rattle.rules.specs.Names.{Day}
use Rattle.rules.specs.declared.Terms.{Terms}
use Rattle.rules.specs.Day.{is_day}
use Rattle.rules.specs.Fold.{first_refusal}
use Rattle.rules.specs.Plan.{Plan, plan_of, window_count, window, is_within, may_take, taken_on, transition_for}
use Rattle.rules.specs.Rights.{move_right, is_permitted}
use Rattle.rules.specs.Acceptance.{accepted, read_plan}
use Rattle.rules.specs.Leading.{last_day}
use Rattle.rules.specs.Ledger.{Ledger, is_forward}
use Rattle.rules.specs.Scope.{has_open_scope}
use Rattle.rules.specs.Event.{EventArguments, may_move, move}
use Rattle.rules.specs.Call.{refusal, done, SignalArguments, FireArguments, Call, event, signal, fire, refused_or, ledger_refusals, call_refusals, call_refusal, figures, day_after, next_day, call_outcome, begin_outcome}
use Rattle.rules.specs.FinishedRun.{Reached, start, then}
use Rattle.rules.specs.ReferenceRun.{words_from, words_after}
use Rattle.rules.proofs.Tests.{look_option, clash, implied}
use Rattle.rules.proofs.Folds.{every_of}
use Rattle.rules.proofs.LedgerChecks.{Passes, first_passes}
use Rattle.rules.proofs.DayLaws.{day_same, day_after_lem, earliest_is, good_day, within, may_take_at}
use Rattle.restoration.proofs.Document01.{move_for, move_day, day_accepted, day_refused, event_day}
use Rattle.restoration.proofs.SoundWords.{the_ledger, holds_day, passes_holds, refusals, outcome, call_holds}
use Rattle.restoration.proofs.Restoration.{history_holds}
use Rattle.restoration.proofs.Continuation.{words_append}

-- A call by the rules: the day rises or stays, and stays in range.
module _ (terms : Terms) (p : Plan) (d : Day) (l : Ledger) where
  accepted_rises : (c : Call) → call_refusal terms p d l c ≡ 0 → le_z d (day_after d c) ≡ true
  unfolding day_after
  accepted_rises (event a) z = (good_day d a.day (event_day terms p d l a z)).1
  accepted_rises (signal a) z = day_same d
  accepted_rises (fire a) z = day_same d

  accepted_in_range : is_day d ≡ true → (c : Call) → call_refusal terms p d l c ≡ 0 → is_day (day_after d c) ≡ true
  unfolding day_after
  accepted_in_range h (event a) z = (good_day d a.day (event_day terms p d l a z)).0
  accepted_in_range h (signal a) z = h
  accepted_in_range h (fire a) z = h

  pub next_rises : (c : Call) → le_z d (next_day terms p d l c) ≡ true
  next_rises c = go (call_refusal terms p d l c) refl
    where
      go : (r : ℕ) → call_refusal terms p d l c ≡ r → le_z d (next_day terms p d l c) ≡ true
      go zero e = rw (day_accepted terms p d l c e) (accepted_rises c e)
      go (suc r) e = rw (day_refused terms p d l c (λ z. let w : suc r ≡ 0 = sym e ∙ z in omega arith)) (day_same d)

  pub next_in_range : is_day d ≡ true → (c : Call) → is_day (next_day terms p d l c) ≡ true
  next_in_range h c = go (call_refusal terms p d l c) refl
    where
      go : (r : ℕ) → call_refusal terms p d l c ≡ r → is_day (next_day terms p d l c) ≡ true
      go zero e = rw (day_accepted terms p d l c e) (accepted_in_range h c e)
      go (suc r) e = rw (day_refused terms p d l c (λ z. let w : suc r ≡ 0 = sym e ∙ z in omega arith)) h

-- what lists of calls reach has a day in range
pub reached_in_range : (p : Plan) (terms : Terms) {d : Day} {l : Ledger} → Reached p terms d l → is_day d ≡ true
reached_in_range p terms start = earliest_is
reached_in_range p terms (then {d = d} {l = l} r c) = next_in_range terms p d l (reached_in_range p terms r) c

-- On words.
module _ (terms : Terms) (bs : List ℕ) (k : Counts) (read : read_plan bs ≡ accepted k) where
  abbrev p : Plan
  p = plan_of bs k

  abbrev ledger : List ℕ → Ledger
  ledger ws = the_ledger terms bs k read ws

  -- a call is refused and leaves all words, or accepted on words that pass the checks
  made : (ws : List ℕ) (c : Call)
      → ((r : ℕ) × (call_outcome terms bs ws c ≡ record { answer = refusal (suc r); words = ws }))
      ⊎ (Passes terms bs p ws × (call_refusal terms p (last_day ws) (ledger ws) c ≡ 0) × ((call_outcome terms bs ws c).answer ≡ done (figures p (ledger ws) c)))
  unfolding refused_or
  made ws c = go _ refl
    where
      go : (r : ℕ) → first_refusal (ledger_refusals terms bs p ws ++ call_refusals terms p (last_day ws) (ledger ws) c) ≡ r
          → ((r : ℕ) × (call_outcome terms bs ws c ≡ record { answer = refusal (suc r); words = ws }))
          ⊎ (Passes terms bs p ws × (call_refusal terms p (last_day ws) (ledger ws) c ≡ 0) × ((call_outcome terms bs ws c).answer ≡ done (figures p (ledger ws) c)))
      go zero e =
          let h = first_passes terms bs p ws (call_refusals terms p (last_day ws) (ledger ws) c) e in
          inr (h, sym (refusals terms bs k read ws c h) ∙ e, ap (λ o. o.answer) (outcome terms bs k read ws c 0 e))
      go (suc r) e = inl (r, outcome terms bs k read ws c (suc r) e)

  day_after_call : (ws : List ℕ) (c : Call) → Passes terms bs p ws → call_refusal terms p (last_day ws) (ledger ws) c ≡ 0
      → last_day (call_outcome terms bs ws c).words ≡ day_after (last_day ws) c
  day_after_call ws c h z =
      (call_holds terms bs k read ws (last_day ws) (ledger ws) (passes_holds terms bs k read ws h) c).day
      ∙ day_accepted terms p (last_day ws) (ledger ws) c z

  -- an accepted event leaves its own day,
  pub event_leaves : (ws : List ℕ) (a : EventArguments) (fs : List ℕ) → (call_outcome terms bs ws (event a)).answer ≡ done fs
      → last_day (call_outcome terms bs ws (event a)).words ≡ a.day
  unfolding day_after
  event_leaves ws a fs h =
      elim (made ws (event a)) [
        | inl r ↦ let q = ap (λ o. o.answer) r.1 in let y : ◌≡◌ {A = ℕ} 0 1 = cc in absurd (omega arith)
        | inr g ↦ day_after_call ws (event a) g.0 g.1
      ]

  -- a signal and a firing, refused or not, the day that was there,
  unmoved : (ws : List ℕ) (c : Call) → day_after (last_day ws) c ≡ last_day ws → last_day (call_outcome terms bs ws c).words ≡ last_day ws
  unmoved ws c e =
      elim (made ws c) [ inl r ↦ ap (λ o. last_day o.words) r.1 | inr g ↦ day_after_call ws c g.0 g.1 ∙ e ]

  pub signal_leaves : (ws : List ℕ) (a : SignalArguments) → last_day (call_outcome terms bs ws (signal a)).words ≡ last_day ws
  unfolding day_after
  signal_leaves ws a = unmoved ws (signal a) refl

  pub fire_leaves : (ws : List ℕ) (a : FireArguments) → last_day (call_outcome terms bs ws (fire a)).words ≡ last_day ws
  unfolding day_after
  fire_leaves ws a = unmoved ws (fire a) refl

  -- and a refused call all words
  pub refused_leaves : (ws : List ℕ) (c : Call) (r : ℕ) → (call_outcome terms bs ws c).answer ≡ refusal r → (call_outcome terms bs ws c).words ≡ ws
  refused_leaves ws c r h =
      elim (made ws c) [
        | inl q ↦ ap (λ o. o.words) q.1
        | inr g ↦ let q = g.2 in let y : ◌≡◌ {A = ℕ} 0 1 = cc in absurd (omega arith)
      ]

  -- No call lowers the day, whatever words it gets,
  pub call_rises : (ws : List ℕ) (c : Call) → le_z (last_day ws) (last_day (call_outcome terms bs ws c).words) ≡ true
  call_rises ws c =
      elim (made ws c) [
        | inl r ↦ rw r.1 (day_same (last_day ws))
        | inr g ↦ rw (day_after_call ws c g.0 g.1) (accepted_rises terms p (last_day ws) (ledger ws) c g.1)
      ]

  pub list_rises : (cs : List Call) (ws : List ℕ) → le_z (last_day ws) (last_day (words_from terms bs ws cs)) ≡ true
  unfolding words_from
  list_rises [] ws = day_same (last_day ws)
  list_rises (c ∷ cs) ws = day_after_lem (last_day ws) _ _ (call_rises ws c) (list_rises cs (call_outcome terms bs ws c).words)

  -- so along a list the last accepted day never falls,
  pub never_falls : (lent : List ℕ) (cs ds : List Call) → le_z (last_day (words_after terms bs lent cs)) (last_day (words_after terms bs lent (cs ++ ds))) ≡ true
  unfolding words_after
  never_falls lent cs ds =
      rw (words_append terms bs k read cs ds (begin_outcome terms bs lent).words)
      (list_rises ds (words_from terms bs (begin_outcome terms bs lent).words cs))

  -- and from an accepted begin on it is in range
  pub always_in_range : (lent : List ℕ) (cs : List Call) → (begin_outcome terms bs lent).answer ≡ done [] → is_day (last_day (words_after terms bs lent cs)) ≡ true
  always_in_range lent cs h = holds_day terms bs k read _ _ _ (history_holds terms bs k read lent cs h)

-- Windows: a transition that is taken is taken on a day of every window that names it,
module _ (p : Plan) (l : Ledger) (a : EventArguments) (t : ℕ) where
  pub taken_within : (x : ℕ) → move p l a t ≡ some x → (w : ℕ) → w < window_count p → (window p w).transition ≡ x
      → (le_z (window p w).first a.day ≡ true) × (le_z a.day (window p w).last ≡ true)
  taken_within x h w b e = within p w a.day (may_take_at p a.day x w (move_day p l a t x h) b e)

  module _ (x : ℕ) (q : transition_for p (l t).state a.event ≡ some x) where
    -- and it is taken where there is one for the event, on a day of every such window, of a society with the right;
    pub within_taken : is_permitted p move_right a.society t ≡ true → is_forward (l t).mode ≡ true → has_open_scope p l t ≡ false
        → ((w : ℕ) → w < window_count p → (window p w).transition ≡ x → is_within (window p w) a.day ≡ true) → move p l a t ≡ some x
    unfolding move may_move taken_on may_take
    within_taken r f o h =
        let m : may_take p a.day x ≡ true =
        every_of (window_count p) (λ w. not (eqb (window p w).transition x) || is_within (window p w) a.day)
        (λ w b. implied (eqb (window p w).transition x) (is_within (window p w) a.day) (λ e. h w b (eqb-true _ _ e))) in
        rw (r, f, o, q, taken_on, m)

    -- on any other day the track ignores the event
    pub outside_ignored : (w : ℕ) → w < window_count p → (window p w).transition ≡ x → is_within (window p w) a.day ≡ false → move p l a t ≡ none
    outside_ignored w b e n =
        elim (look_option (move p l a t)) [
          | inl i ↦ i
          | inr i ↦
              let (y, j) = i in
              let same : some y ≡ some x = sym (move_for p l a t y j) ∙ q in
              let z : y ≡ x = cc in
              clash (may_take_at p a.day x w (subst (λ v. may_take p a.day v ≡ true) z (move_day p l a t y j)) b e) n
        ]
