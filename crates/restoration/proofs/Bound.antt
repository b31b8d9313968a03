-- The bound on firings, on words: the words hold the ledger of the rules, so the firings done are the theory's; and words that are not
-- sound allow none. Assumes nothing.
use mathlib.Core.Path.{◌≡◌, refl, sym, ap, ap₂, ◌∙◌}
use mathlib.Core.Bool.{true, false, cond, not, ◌&&◌}
use mathlib.Core.List.{List, [], ◌∷◌}
use Prim.Native.Nat.{ℕ, zero, suc, ◌+◌, ◌*◌, ◌≤◌}
use native.Mathlib.Omega.{arith}
use lib.Dec.{eqb}
use borrow.Author.Tests.{ne_eqb}
use Rattle.rules.specs.declared.Counts.{Counts}
use Rattle.rules.specs.Names.{Day}
use Rattle.rules.specs.declared.Terms.{Terms}
use Rattle.rules.specs.Plan.{Plan, track_count, plan_of}
use Rattle.rules.specs.Acceptance.{accepted, read_plan}
use Rattle.rules.specs.declared.Setting.{Setting}
use Rattle.rules.specs.Setting.{limit_of, terms_of}
use Rattle.rules.specs.Ledger.{Ledger}
use Rattle.rules.specs.Call.{Answer, refusal, done, Call, event, signal, fire, refused_or, ledger_refusal, call_refusals, call_refusal, call_outcome}
use Rattle.rules.specs.Leading.{last_day}
use Rattle.rules.specs.Transcript.{firings_of, firings_in}
use Rattle.rules.specs.ReferenceRun.{words_from, answers_from}
use Rattle.rules.proofs.Acceptance.{Accepted, accepts}
use Rattle.theory.specs.Seams as seam
use Rattle.theory.specs.Runs.{firings_from, is_eventless}
use Rattle.restoration.specs.Firings.{is_event_done, is_deviation, is_without}
use Rattle.theory.proofs.FiringsFall as theorem
use Rattle.restoration.proofs.Document01.{document01, as_rules, as_theory, there_and_back, laws01}
use Rattle.rules.proofs.LedgerChecks.{none_passes, refused_first}
use Rattle.restoration.proofs.SoundWords.{the_ledger, Holds, passes_holds, outcome, call_accepted, call_refused, next_holds}
use Rattle.restoration.proofs.Restoration.{listed}

-- an accepted call's firings, and whether it is an event, by the rules and by the theory
same_firing : (c : Call) (figures : List ℕ) → firings_of c (done figures) ≡ seam.firings_of (as_theory c)
unfolding firings_of
same_firing (event a) fs = refl
same_firing (signal a) fs = refl
same_firing (fire a) fs = refl

same_event : (c : Call) (figures : List ℕ) → is_event_done c (done figures) ≡ seam.is_event (as_theory c)
unfolding is_event_done
same_event (event a) fs = refl
same_event (signal a) fs = refl
same_event (fire a) fs = refl

pub refused_firing : (c : Call) (r : ℕ) → firings_of c (refusal r) ≡ 0
unfolding firings_of
refused_firing (event a) r = refl
refused_firing (signal a) r = refl
refused_firing (fire a) r = refl

refused_event : (c : Call) (r : ℕ) → is_event_done c (refusal r) ≡ false
unfolding is_event_done
refused_event (event a) r = refl
refused_event (signal a) r = refl
refused_event (fire a) r = refl

module _ (terms : Terms) (bs : List ℕ) (k : Counts) (read : read_plan bs ≡ accepted k) where
  abbrev p : Plan
  p = plan_of bs k

  abbrev ok : Accepted p
  ok = accepts bs k read

  abbrev answers : List ℕ → List Call → List Answer
  answers ws cs = answers_from terms bs ws cs

  -- the number by the day and the ledger that the words hold, as the theory has it
  abbrev number : Day → Ledger → Call → ℕ
  number d l c = call_refusal terms p d l (as_rules (as_theory c))

  -- one call
  step : (ws : List ℕ) (d : Day) (l : Ledger) → Holds terms bs k read ws d l → (c : Call)
      → (firings_of c (call_outcome terms bs ws c).answer ≡ cond (eqb (number d l c) 0) (seam.firings_of (as_theory c)) 0)
      × (is_event_done c (call_outcome terms bs ws c).answer ≡ (eqb (number d l c) 0 && seam.is_event (as_theory c)))
  step ws d l h c = go (call_refusal terms p d l c) refl
    where
      back : number d l c ≡ call_refusal terms p d l c
      back = ap (call_refusal terms p d l) (there_and_back c)

      go : (r : ℕ) → call_refusal terms p d l c ≡ r
          → (firings_of c (call_outcome terms bs ws c).answer ≡ cond (eqb (number d l c) 0) (seam.firings_of (as_theory c)) 0)
          × (is_event_done c (call_outcome terms bs ws c).answer ≡ (eqb (number d l c) 0 && seam.is_event (as_theory c)))
      go zero e = rw (call_accepted terms bs k read ws d l h c e, back, e) (same_firing c _, same_event c _)
      go (suc r) e =
          let no : eqb (number d l c) 0 ≡ false = ne_eqb (number d l c) 0 (λ z. let w : suc r ≡ 0 = sym e ∙ sym back ∙ z in omega arith) in
          rw (call_refused terms bs k read ws d l h c r e, no) (refused_firing c (suc r), refused_event c (suc r))

  same_firings : (cs : List Call) (ws : List ℕ) (d : Day) (l : Ledger) → Holds terms bs k read ws d l
      → firings_in cs (answers ws cs) ≡ firings_from document01 p terms d l (listed cs)
  unfolding firings_in answers_from firings_from listed
  same_firings [] ws d l h = refl
  same_firings (c ∷ cs) ws d l h =
      ap₂ (λ x y. x + y) (step ws d l h c).0 (same_firings cs (call_outcome terms bs ws c).words _ _ (next_holds terms bs k read ws d l h c))

  same_eventless : (cs : List Call) (ws : List ℕ) (d : Day) (l : Ledger) → Holds terms bs k read ws d l
      → is_without is_event_done cs (answers ws cs) ≡ is_eventless document01 p terms d l (listed cs)
  unfolding is_without answers_from is_eventless listed
  same_eventless [] ws d l h = refl
  same_eventless (c ∷ cs) ws d l h =
      ap₂ (λ x y. not x && y) (step ws d l h c).1 (same_eventless cs (call_outcome terms bs ws c).words _ _ (next_holds terms bs k read ws d l h c))

  -- words that do not pass the checks: every call is refused, so they stay
  pub refused_all : (cs : List Call) (ws : List ℕ) (r : ℕ) → ledger_refusal terms bs p ws ≡ suc r
      → (words_from terms bs ws cs ≡ ws) × (firings_in cs (answers ws cs) ≡ 0)
  unfolding words_from answers_from firings_in refused_or
  refused_all [] ws r h = (refl, refl)
  refused_all (c ∷ cs) ws r h =
      let (e, n) = refused_all cs ws r h in
      rw (outcome terms bs k read ws c (suc r) (refused_first terms bs p ws r h (call_refusals terms p (last_day ws) (the_ledger terms bs k read ws) c)))
      (e, omega (arith, n, refused_firing c (suc r)))

  -- in any list without an accepted event, from any words, at most `limit` firings for each track are accepted
  pub firings_bounded : (ws : List ℕ) (cs : List Call) → is_without is_event_done cs (answers_from terms bs ws cs) ≡ true
      → firings_in cs (answers_from terms bs ws cs) ≤ terms.limit * track_count p
  firings_bounded ws cs n = go (ledger_refusal terms bs p ws) refl
    where
      go : (r : ℕ) → ledger_refusal terms bs p ws ≡ r → firings_in cs (answers ws cs) ≤ terms.limit * track_count p
      go zero e =
          let l = the_ledger terms bs k read ws in
          let h = passes_holds terms bs k read ws (none_passes terms bs p ws e) in
          rw (same_firings cs ws (last_day ws) l h)
          (theorem.firings_bounded laws01 terms p ok (listed cs) (last_day ws) l h.kept (sym (same_eventless cs ws (last_day ws) l h) ∙ n))
      go (suc r) e = let z = (refused_all cs ws r e).1 in omega arith

-- "No firings beyond 32 times the number of tracks follow one another without an event or a deviation.": at each setting its own limit
pub no_firings_beyond : (setting : Setting) (bs : List ℕ) (k : Counts) → read_plan bs ≡ accepted k → (ws : List ℕ) (cs : List Call)
    → is_without is_event_done cs (answers_from (terms_of setting) bs ws cs) ≡ true
    → is_without is_deviation cs (answers_from (terms_of setting) bs ws cs) ≡ true
    → firings_in cs (answers_from (terms_of setting) bs ws cs) ≤ limit_of setting.limit * track_count (plan_of bs k)
no_firings_beyond setting bs k read ws cs n d = unfold terms_of in firings_bounded (terms_of setting) bs k read ws cs n
