-- What a call answers once the checks of plan and ledger are passed: the first of its own refusals, or its figures and the ledger after it.
-- Assumes nothing.
use Rattle.std.proofs.Common.{◌≡◌, sym, ap, ◌∙◌, subst, Bool, true, false, ◌&&◌, List, [], ◌∷◌, ◌++◌, ℕ, suc}
use Rattle.rules.specs.declared.Counts.{Counts}
use Rattle.rules.specs.declared.Terms.{Terms}
use Rattle.rules.specs.Fold.{count_below, first_refusal}
use Rattle.rules.specs.Plan.{Plan, track_count, plan_of}
use Rattle.rules.specs.Rights.{signal_right, is_permitted, holds_somewhere}
use Rattle.rules.specs.Leading.{last_day}
use Rattle.rules.specs.Ledger.{Ledger, is_forward, ledger_at, written}
use Rattle.rules.specs.Scope.{is_over}
use Rattle.rules.specs.Finish.{finished}
use Rattle.rules.specs.Signal.{turned, turnings, abandoned, after_signal}
use Rattle.rules.specs.Call.{refusal, done, Outcome, SignalArguments, Call, signal, refused_or, under_plan, ledger_refusals, call_refusals, call_refusal, figures, after, dated_by, call_outcome, signal_outcome, Meets}
use Rattle.rules.proofs.LedgerChecks.{passes_first}
use Rattle.rules.proofs.Stored.{Storable}
use Rattle.plan.proofs.FieldLaws.{track_count_lem}
use Rattle.ledger.specs.Ladder.{Tidy, Checked, Going, ledger_of}
use Rattle.lookup.proofs.Facts.{checked_passes, tidy_words, live_of_going}
use Rattle.lookup.proofs.OneTrackLaws.{holds, read_back, orderly_after, then}
use Rattle.withdrawal.specs.Scopes.{Nested}
use Rattle.withdrawal.proofs.ScopesNested.{nested_turned}
use Rattle.withdrawal.proofs.Storing.{storable_turned}

module _ (terms : Terms) (bs : List ℕ) (c : Counts) (ws : List ℕ) (g : Checked terms bs c ws) where
  abbrev p : Plan
  p = plan_of bs c

  -- the call on the ledger of so many tracks
  abbrev answered : Call → ℕ → ℕ → Outcome
  answered k n r =
      refused_or ws
      (record {
        answer = done (figures p (ledger_at terms ws n) k);
        words = written terms n (after p (ledger_at terms ws n) k) (dated_by k ws);
      })
      r

  read : (k : Call) → call_outcome terms bs ws k
      ≡ answered k (track_count p) (first_refusal (ledger_refusals terms bs p ws ++ call_refusals terms p (last_day ws) (ledger_at terms ws (track_count p)) k))
  unfolding call_outcome under_plan
  read k = rw (g.lent.accepts.read, under_plan)

  pub outcome : (k : Call) → call_outcome terms bs ws k ≡ answered k c.tracks (call_refusal terms p (last_day ws) (ledger_at terms ws c.tracks) k)
  unfolding call_refusal
  outcome k =
      read k
      ∙ ap (answered k (track_count p)) (passes_first terms bs p ws (checked_passes terms bs c ws g) (call_refusals terms p (last_day ws) (ledger_at terms ws (track_count p)) k))
      ∙ ap (λ (n : ℕ). answered k n (first_refusal (call_refusals terms p (last_day ws) (ledger_at terms ws n) k))) (track_count_lem bs c)

  pub orderly : Tidy terms ws c.tracks
  orderly = tidy_words terms bs c ws g

  pub going : is_over p (ledger_of terms c ws) ≡ false → Going terms bs c ws
  going n = record { checked = g; goes_on = n }

  -- refused by a number of its own, and accepted
  pub refused_call : (k : Call) (r : ℕ) → call_refusal terms p (last_day ws) (ledger_of terms c ws) k ≡ suc r → Meets (call_outcome terms bs ws k) (refusal (suc r)) ws
  unfolding refused_or ledger_of
  refused_call k r q =
      let e = outcome k ∙ ap (answered k c.tracks) q in
      record { answered = sym (ap (λ (x : Outcome). x.answer) e); left = sym (ap (λ (x : Outcome). x.words) e) }

  pub done_call : (k : Call) → call_refusal terms p (last_day ws) (ledger_of terms c ws) k ≡ 0 → {fs vs : List ℕ} → fs ≡ figures p (ledger_of terms c ws) k
      → vs ≡ written terms c.tracks (after p (ledger_of terms c ws) k) (dated_by k ws) → Meets (call_outcome terms bs ws k) (done fs) vs
  unfolding refused_or ledger_of
  done_call k q f w =
      let e = outcome k ∙ ap (answered k c.tracks) q in
      record { answered = ap done f ∙ sym (ap (λ (x : Outcome). x.answer) e); left = w ∙ sym (ap (λ (x : Outcome). x.words) e) }

  -- A signal: over, by a society that may turn no track, or turned.
  module _ (society : ℕ) where
    abbrev asked : SignalArguments
    asked = record { society = society }

    abbrev turned_all : Ledger
    turned_all = turned p society (ledger_of terms c ws)

    stored : Storable terms c.tracks turned_all
    stored = storable_turned terms c.tracks p society (ledger_of terms c ws) (holds terms c ws orderly)

    pub signal_over : is_over p (ledger_of terms c ws) ≡ true → Meets (signal_outcome terms bs ws asked) (refusal 20) ws
    unfolding signal_outcome call_refusal call_refusals first_refusal
    signal_over o = refused_call (signal asked) 19 (rw o)

    pub signal_lacks : is_over p (ledger_of terms c ws) ≡ false → {h : Bool} → h ≡ holds_somewhere p signal_right society → h ≡ false
        → Meets (signal_outcome terms bs ws asked) (refusal 28) ws
    unfolding signal_outcome call_refusal call_refusals first_refusal
    signal_lacks o k n = refused_call (signal asked) 27 (rw (o, ← k, n))

    pub turned_orderly : {vs : List ℕ} → vs ≡ written terms c.tracks turned_all ws → Tidy terms vs c.tracks
    turned_orderly d = orderly_after terms c ws orderly turned_all stored d

    pub turned_nested : is_over p (ledger_of terms c ws) ≡ false → {vs : List ℕ} → vs ≡ written terms c.tracks turned_all ws → Nested p (ledger_of terms c vs)
    turned_nested n d =
        subst (Nested p) (sym (read_back terms c ws orderly turned_all stored d)) (nested_turned p (ledger_of terms c ws) (live_of_going terms bs c ws (going n)) society)

    pub signal_done : {n : ℕ} {vs us : List ℕ} → is_over p (ledger_of terms c ws) ≡ false → {h : Bool} → h ≡ holds_somewhere p signal_right society → h ≡ true
        → n ≡ count_below c.tracks (λ t. is_permitted p signal_right society t && is_forward (ledger_of terms c ws t).mode)
        → vs ≡ written terms c.tracks turned_all ws
        → us ≡ written terms c.tracks (finished p (abandoned p (ledger_of terms c vs))) vs
        → Meets (signal_outcome terms bs ws asked) (done (n ∷ [])) us
    unfolding signal_outcome call_refusal call_refusals first_refusal figures after dated_by turnings after_signal
    signal_done o k q f v w =
        let l : Ledger = ledger_of terms c ws in
        done_call (signal asked) (rw (o, ← k, q))
        (ap (λ (n : ℕ). n ∷ [])
        (f ∙ ap (λ (m : ℕ). count_below m (λ t. is_permitted p signal_right society t && is_forward (l t).mode)) (sym (track_count_lem bs c))))
        (then terms c ws orderly turned_all stored v (λ m. finished p (abandoned p m)) w)
