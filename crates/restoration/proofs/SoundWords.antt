-- Words that hold a day and a ledger of the rules: each call leaves words that hold the next day and ledger, refused or not, and accepted
-- calls leave sound words. Reading back what was written gives both again, so the words follow them call by call. Assumes nothing.
use mathlib.Core.Path.{◌≡◌, refl, sym, ap, ap₂, ◌∙◌, subst}
use mathlib.Core.Logic.{inl, inr}
use mathlib.Core.Bool.{true, false}
use mathlib.Core.List.{List, [], ◌++◌}
use Prim.Native.Nat.{ℕ, zero, suc, ◌≤◌}
use native.Mathlib.Omega.{arith}
use lib.ListN.{length}
use borrow.Author.Tests.{ltb-false, le-ltb}
use Rattle.rules.specs.declared.Counts.{Counts}
use Rattle.rules.specs.Names.{Day}
use Rattle.rules.specs.declared.Terms.{Terms}
use Rattle.rules.specs.Day.{earliest_day, is_day}
use Rattle.rules.specs.Fold.{first_refusal}
use Rattle.rules.specs.Plan.{Plan, track_count, plan_of}
use Rattle.rules.specs.Acceptance.{accepted, read_plan}
use Rattle.rules.specs.Layout.{leading_words, word_count}
use Rattle.rules.specs.Leading.{last_day, stamped, other_plan}
use Rattle.rules.specs.Ledger.{Ledger, ledger_at, written}
use Rattle.rules.specs.Opening.{begun}
use Rattle.rules.specs.Soundness.{is_sound}
use Rattle.rules.specs.Call.{refusal, done, Outcome, Call, event, signal, fire, refused_or, under_plan, too_short, ledger_refusals, call_refusals, call_refusal, figures, after, day_after, dated_by, next, next_day, call_outcome, begin_outcome}
use Rattle.rules.proofs.Tests.{look}
use Rattle.rules.proofs.Acceptance.{Accepted, accepts}
use Rattle.rules.proofs.TrackWords.{place_after}
use Rattle.rules.proofs.Stored.{read_written, length-written_lem}
use Rattle.rules.proofs.LeadingLaws.{length-stamped_lem, stamped_own, stamped_day, other_written, day_written, length-dated_lem, dated_other, dated_day}
use Rattle.rules.proofs.SignedLaws.{joined_day_words}
use Rattle.rules.proofs.DayLaws.{earliest_is, good_day}
use Rattle.rules.proofs.LedgerChecks.{Passes, passes_first, first_passes}
use Rattle.theory.proofs.SoundBegin.{begun_sound}
use Rattle.theory.proofs.SoundKept.{Kept}
use Rattle.restoration.proofs.Document01.{document01, as_rules, as_theory, there_and_back, next_accepted, next_refused, day_accepted, day_refused, event_day, laws01}
use Rattle.restoration.proofs.SoundLive.{kept_storable, kept_next, words_sound, words_day, words_kept}

module _ (terms : Terms) (bs : List ℕ) (k : Counts) (read : read_plan bs ≡ accepted k) where
  abbrev pub the_plan : Plan
  the_plan = plan_of bs k

  ok : Accepted the_plan
  ok = accepts bs k read

  abbrev n : ℕ
  n = track_count the_plan

  -- under the plan that was read
  under : (ws : List ℕ) (f : Plan → Outcome) → under_plan bs ws f ≡ f the_plan
  unfolding under_plan
  under ws f = rw (read, under_plan)

  -- the words hold the day and the ledger
  pub record Holds (ws : List ℕ) (d : Day) (l : Ledger) : Type 0 where
    pub long : word_count terms n ≤ length ws
    pub own : other_plan bs ws ≡ false
    pub sound : is_sound terms the_plan ws ≡ true
    pub day : last_day ws ≡ d
    pub reads : ledger_at terms ws n ≡ l
    pub kept : Kept document01 terms the_plan l

  -- a day in range
  pub holds_day : (ws : List ℕ) (d : Day) (l : Ledger) → Holds ws d l → is_day d ≡ true
  holds_day ws d l h = ap is_day (sym h.day) ∙ words_day terms the_plan ok ws h.sound

  -- words with room that are the plan's own and have this day, which is in range
  record Dated (ws : List ℕ) (d : Day) : Type 0 where
    pub long : word_count terms n ≤ length ws
    pub own : other_plan bs ws ≡ false
    pub day : last_day ws ≡ d
    pub range : is_day d ≡ true

  -- hold what is written to them
  written_holds : (d : Day) (l : Ledger) (ws : List ℕ) → Dated ws d → Kept document01 terms the_plan l → Holds (written terms n l ws) d l
  written_holds d l ws h s =
      let st = kept_storable terms the_plan ok l s in
      let b = h.long in
      record {
        long = let e = length-written_lem terms n l ws st.fits b in omega arith;
        own = other_written bs ws terms n l st.fits b ∙ h.own;
        sound = words_sound terms the_plan ok l ws b (ap is_day h.day ∙ h.range) s;
        day = day_written bs ws terms n l st.fits b ∙ h.day;
        reads = read_written terms n l ws st.fits b st.beyond;
        kept = s;
      }

  -- words that pass the checks hold the day and the ledger that they read as, and words that hold them pass the checks
  pub passes_holds : (ws : List ℕ) → Passes terms bs the_plan ws → Holds ws (last_day ws) (ledger_at terms ws n)
  unfolding too_short
  passes_holds ws h =
      record {
        long = ltb-false (length ws) (word_count terms n) h.long;
        own = h.own;
        sound = h.sound;
        day = refl;
        reads = refl;
        kept = words_kept terms the_plan ok ws h.sound;
      }

  pub holds_passes : (ws : List ℕ) (d : Day) (l : Ledger) → Holds ws d l → Passes terms bs the_plan ws
  unfolding too_short
  holds_passes ws d l h = record { long = le-ltb (length ws) (word_count terms n) h.long; own = h.own; sound = h.sound }

  abbrev pub the_ledger : List ℕ → Ledger
  the_ledger ws = ledger_at terms ws n

  -- the refusals of a call whose words pass the checks are those by its day and ledger
  pub refusals : (ws : List ℕ) (c : Call) → Passes terms bs the_plan ws
      → first_refusal (ledger_refusals terms bs the_plan ws ++ call_refusals terms the_plan (last_day ws) (the_ledger ws) c)
      ≡ call_refusal terms the_plan (last_day ws) (the_ledger ws) c
  unfolding call_refusal
  refusals ws c h = passes_first terms bs the_plan ws h (call_refusals terms the_plan (last_day ws) (the_ledger ws) c)

  pub outcome : (ws : List ℕ) (c : Call) (r : ℕ)
      → first_refusal (ledger_refusals terms bs the_plan ws ++ call_refusals terms the_plan (last_day ws) (the_ledger ws) c) ≡ r
      → call_outcome terms bs ws c
      ≡ refused_or ws
      (record { answer = done (figures the_plan (the_ledger ws) c); words = written terms n (after the_plan (the_ledger ws) c) (dated_by c ws) }) r
  unfolding call_outcome
  outcome ws c r h = under ws _ ∙ (rw h)

  -- what a call answers to words that hold a day and a ledger, and what it leaves
  module _ (ws : List ℕ) (d : Day) (l : Ledger) (h : Holds ws d l) (c : Call) where
    same_refusal : call_refusal terms the_plan (last_day ws) (the_ledger ws) c ≡ call_refusal terms the_plan d l c
    same_refusal = ap₂ (λ x y. call_refusal terms the_plan x y c) h.day h.reads

    pub call_accepted : call_refusal terms the_plan d l c ≡ 0
        → call_outcome terms bs ws c ≡ record { answer = done (figures the_plan l c); words = written terms n (after the_plan l c) (dated_by c ws) }
    unfolding refused_or
    call_accepted a =
        outcome ws c 0 (refusals ws c (holds_passes ws d l h) ∙ same_refusal ∙ a)
        ∙ ap (λ x. record { answer = done (figures the_plan x c); words = written terms n (after the_plan x c) (dated_by c ws) }) h.reads

    pub call_refused : (r : ℕ) → call_refusal terms the_plan d l c ≡ suc r → call_outcome terms bs ws c ≡ record { answer = refusal (suc r); words = ws }
    unfolding refused_or
    call_refused r a = outcome ws c (suc r) (refusals ws c (holds_passes ws d l h) ∙ same_refusal ∙ a)

  -- the words that an accepted call dates have its day
  dated_by_lem : (ws : List ℕ) (d : Day) (l : Ledger) → Holds ws d l → (c : Call) → call_refusal terms the_plan d l c ≡ 0 → Dated (dated_by c ws) (day_after d c)
  unfolding dated_by day_after word_count
  dated_by_lem ws d l h (event a) z =
      let room : leading_words ≤ length ws = omega (arith, h.long, place_after terms n) in
      let good = (good_day d a.day (event_day terms the_plan d l a z)).0 in
      record {
        long = omega (arith, h.long, length-dated_lem a.day ws room);
        own = dated_other a.day bs ws room ∙ h.own;
        day = dated_day a.day ws room (joined_day_words a.day good);
        range = good;
      }
  dated_by_lem ws d l h (signal a) z = record { long = h.long; own = h.own; day = h.day; range = holds_day ws d l h }
  dated_by_lem ws d l h (fire a) z = record { long = h.long; own = h.own; day = h.day; range = holds_day ws d l h }

  -- the words after a call hold the next day and ledger
  pub call_holds : (ws : List ℕ) (d : Day) (l : Ledger) → Holds ws d l → (c : Call)
      → Holds (call_outcome terms bs ws c).words (next_day terms the_plan d l c) (next terms the_plan d l c)
  call_holds ws d l h c = go (call_refusal terms the_plan d l c) refl
    where
      go : (r : ℕ) → call_refusal terms the_plan d l c ≡ r → Holds (call_outcome terms bs ws c).words (next_day terms the_plan d l c) (next terms the_plan d l c)
      go zero e =
          rw (call_accepted ws d l h c e, day_accepted terms the_plan d l c e, next_accepted terms the_plan d l c e)
          (written_holds (day_after d c) (after the_plan l c) (dated_by c ws) (dated_by_lem ws d l h c e)
          (subst (Kept document01 terms the_plan) (next_accepted terms the_plan d l c e) (kept_next terms the_plan ok d l h.kept c)))
      go (suc r) e =
          let no : call_refusal terms the_plan d l c ≡ 0 → ⊥ = λ z. let w : suc r ≡ 0 = sym e ∙ z in omega arith in
          rw (call_refused ws d l h c r e, day_refused terms the_plan d l c no, next_refused terms the_plan d l c no) h

  -- the same of the call as the theory has it
  pub next_holds : (ws : List ℕ) (d : Day) (l : Ledger) → Holds ws d l → (c : Call)
      → Holds (call_outcome terms bs ws c).words (next_day terms the_plan d l (as_rules (as_theory c))) (next terms the_plan d l (as_rules (as_theory c)))
  next_holds ws d l h c =
      subst (λ e. Holds (call_outcome terms bs ws c).words (next_day terms the_plan d l e) (next terms the_plan d l e)) (sym (there_and_back c))
      (call_holds ws d l h c)

  pub begin_accepted : (ws : List ℕ) → too_short terms the_plan ws ≡ false
      → begin_outcome terms bs ws ≡ record { answer = done []; words = written terms n (begun the_plan) (stamped bs ws) }
  unfolding begin_outcome refused_or first_refusal
  begin_accepted ws b = under ws _ ∙ (rw b)

  pub begin_refused : (ws : List ℕ) → too_short terms the_plan ws ≡ true → (begin_outcome terms bs ws).answer ≡ refusal 17
  unfolding begin_outcome refused_or first_refusal
  begin_refused ws b = ap (λ o. o.answer) (under ws _) ∙ (rw b)

  stamped_long : (ws : List ℕ) → word_count terms n ≤ length ws → word_count terms n ≤ length (stamped bs ws)
  unfolding word_count
  stamped_long ws b = omega (arith, b, length-stamped_lem bs ws (omega (arith, b, place_after terms n)))

  pub begin_holds : (ws : List ℕ) → (begin_outcome terms bs ws).answer ≡ done [] → Holds (begin_outcome terms bs ws).words earliest_day (begun the_plan)
  unfolding too_short
  begin_holds ws h =
      elim (look (too_short terms the_plan ws)) [
        | inl b ↦ let e = begin_refused ws b in let z : ◌≡◌ {A = ℕ} 0 1 = cc in absurd (omega arith)
        | inr b ↦
            rw (begin_accepted ws b)
            (written_holds earliest_day (begun the_plan) (stamped bs ws)
            (record {
              long = stamped_long ws (ltb-false (length ws) (word_count terms n) b);
              own = stamped_own bs ws;
              day = stamped_day bs ws;
              range = earliest_is;
            })
            (inr (begun_sound laws01 terms the_plan ok)))
      ]

  -- Soundness is kept, on words: an accepted begin leaves sound words, and so does every call that is accepted.
  pub begin_sound : (ws : List ℕ) → (begin_outcome terms bs ws).answer ≡ done [] → is_sound terms the_plan (begin_outcome terms bs ws).words ≡ true
  begin_sound ws h = (begin_holds ws h).sound

  -- an accepted call got words that pass the checks
  not_refused : (ws : List ℕ) (c : Call) (fs : List ℕ) → (call_outcome terms bs ws c).answer ≡ done fs → (r : ℕ)
      → first_refusal (ledger_refusals terms bs the_plan ws ++ call_refusals terms the_plan (last_day ws) (the_ledger ws) c) ≡ r → r ≡ 0
  unfolding refused_or
  not_refused ws c fs h zero e = refl
  not_refused ws c fs h (suc r) e =
      let q : (call_outcome terms bs ws c).answer ≡ refusal (suc r) = ap (λ o. o.answer) (outcome ws c (suc r) e) in
      let y : ◌≡◌ {A = ℕ} 0 1 = cc in absurd (omega arith)

  pub done_passes : (ws : List ℕ) (c : Call) (fs : List ℕ) → (call_outcome terms bs ws c).answer ≡ done fs → Passes terms bs the_plan ws
  done_passes ws c fs h = first_passes terms bs the_plan ws (call_refusals terms the_plan (last_day ws) (the_ledger ws) c) (not_refused ws c fs h _ refl)

  -- and nothing in the day or the ledger to refuse it
  pub done_accepted : (ws : List ℕ) (c : Call) (fs : List ℕ) → (call_outcome terms bs ws c).answer ≡ done fs
      → call_refusal terms the_plan (last_day ws) (the_ledger ws) c ≡ 0
  done_accepted ws c fs h =
      let p = done_passes ws c fs h in
      sym (refusals ws c p) ∙ not_refused ws c fs h _ refl

  pub call_sound : (ws : List ℕ) (c : Call) (fs : List ℕ) → (call_outcome terms bs ws c).answer ≡ done fs
      → is_sound terms the_plan (call_outcome terms bs ws c).words ≡ true
  call_sound ws c fs h = (call_holds ws (last_day ws) (the_ledger ws) (passes_holds ws (done_passes ws c fs h)) c).sound
