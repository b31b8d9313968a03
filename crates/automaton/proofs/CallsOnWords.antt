-- The calls on words, as their contracts speak of them: what is said of ledgers, of the ledger that the words hold. For a call with
-- `Meets (call_outcome limit bs ws c) told words`, `told` is the answer and `words` the words below. Assumes nothing.
use mathlib.Core.Path.{◌≡◌, refl, sym, ap, ◌∙◌, subst}
use mathlib.Core.Logic.{◌⊎◌, ◌↔◌, inl, inr}
use mathlib.Core.List.{List, [], ◌++◌}
use Prim.Native.Nat.{ℕ, zero, suc}
use native.Mathlib.Omega.{arith}
use Rattle.rules.specs.declared.Counts.{Counts}
use Rattle.rules.specs.declared.Terms.{Terms}
use Rattle.rules.specs.Fold.{first_refusal}
use Rattle.rules.specs.Plan.{Plan, track_count, plan_of, is_root}
use Rattle.rules.specs.Acceptance.{accepted, read_plan}
use Rattle.rules.specs.Leading.{last_day}
use Rattle.rules.specs.Ledger.{Ledger, ledger_at}
use Rattle.rules.specs.Call.{refusal, done, Call, refused_or, ledger_refusals, ledger_refusal, call_refusals, call_refusal, figures, after, call_outcome, begin_outcome}
use Rattle.rules.proofs.Acceptance.{passed_all, read_passed, Accepted, accepts}
use Rattle.rules.proofs.LedgerChecks.{none_passes, refused_first, ledger_numbers}
use Rattle.restoration.proofs.SoundWords.{Holds, outcome, done_passes, passes_holds, begin_holds, call_holds, call_accepted, call_refused}
use Rattle.restoration.proofs.Theorems01.{over_refused, next_accepted, Sound, Kept, over_is}
use Rattle.automaton.specs.Configuration.{Conf, init}
use Rattle.automaton.specs.Semantics.{FailReading}
use Rattle.automaton.specs.View.{view}
use Rattle.automaton.specs.CountedSteps.{counted_steps}
use Rattle.automaton.specs.Exactly.{told_by, Exactly}
use Rattle.automaton.specs.Enabled.{StepFor}
use Rattle.automaton.specs.BigSteps.{Big, Ends}
use Rattle.automaton.proofs.Entered.{begin_init}
use Rattle.automaton.proofs.Enabled.{refused_none}
use Rattle.automaton.proofs.Faithful.{kept_faithful}
use Rattle.automaton.proofs.Exactly.{exactly}

done_same : (u v : List ℕ) → done u ≡ done v → u ≡ v
done_same u v e = cc

refusal_same : (r s : ℕ) → refusal r ≡ refusal s → r ≡ s
refusal_same r s e = cc

not_both : (u : List ℕ) (r : ℕ) → done u ≡ refusal r → ⊥
not_both u r e = let z : ◌≡◌ {A = ℕ} 0 1 = cc in absurd (omega arith)

-- 19, 20, 22 and 28: the refusals of a call for which the automaton has no step
abbrev pub Stepless : ℕ → Type 0
Stepless r = ((r ≡ 19) ⊎ (r ≡ 20)) ⊎ ((r ≡ 22) ⊎ (r ≡ 28))

stepless : (r : ℕ) → Stepless r → (r ≡ 17 → ⊥) × (r ≡ 24 → ⊥) × (r ≡ 18 → ⊥) × (r ≡ 21 → ⊥) × (r ≡ 26 → ⊥)
stepless r (inl (inl e)) = (λ z. omega arith, λ z. omega arith, λ z. omega arith, λ z. omega arith, λ z. omega arith)
stepless r (inl (inr e)) = (λ z. omega arith, λ z. omega arith, λ z. omega arith, λ z. omega arith, λ z. omega arith)
stepless r (inr (inl e)) = (λ z. omega arith, λ z. omega arith, λ z. omega arith, λ z. omega arith, λ z. omega arith)
stepless r (inr (inr e)) = (λ z. omega arith, λ z. omega arith, λ z. omega arith, λ z. omega arith, λ z. omega arith)

module _ (ρ : FailReading) (terms : Terms) (bs : List ℕ) (k : Counts) (read : read_plan bs ≡ accepted k) where
  abbrev p : Plan
  p = plan_of bs k

  ok : Accepted p
  ok = accepts bs k read

  abbrev the_ledger : List ℕ → Ledger
  the_ledger ws = ledger_at terms ws (track_count p)

  -- begin leads to init
  pub begin_words : (ws : List ℕ) → (begin_outcome terms bs ws).answer ≡ done [] → view p ρ (the_ledger (begin_outcome terms bs ws).words) ≡ init p (is_root p)
  begin_words ws h = ap (view p ρ) (begin_holds terms bs k read ws h).reads ∙ begin_init p ok ρ

  -- what an accepted call was made on, and what it leaves
  record Made (ws : List ℕ) (c : Call) (told : List ℕ) : Type 0 where
    sound : Sound terms p (the_ledger ws)
    taken : call_refusal terms p (last_day ws) (the_ledger ws) c ≡ 0
    leaves : the_ledger (call_outcome terms bs ws c).words ≡ after p (the_ledger ws) c
    kept : Kept terms p (the_ledger (call_outcome terms bs ws c).words)
    holds : Holds terms bs k read ws (last_day ws) (the_ledger ws)

  made : (ws : List ℕ) (c : Call) (told : List ℕ) → (call_outcome terms bs ws c).answer ≡ done told → Made ws c told
  made ws c told h = go (passes_holds terms bs k read ws (done_passes terms bs k read ws c told h)) (call_refusal terms p (last_day ws) (the_ledger ws) c) refl
    where
      go : Holds terms bs k read ws (last_day ws) (the_ledger ws) → (r : ℕ) → call_refusal terms p (last_day ws) (the_ledger ws) c ≡ r → Made ws c told
      go w (suc r) e = absurd (not_both told (suc r) (sym h ∙ ap (λ o. o.answer) (call_refused terms bs k read ws (last_day ws) (the_ledger ws) w c r e)))
      go w zero e =
          elim w.kept [
            | inl o ↦ absurd (over_refused terms p (last_day ws) (the_ledger ws) (over_is p (the_ledger ws) o) c e)
            | inr v ↦
                let x = call_holds terms bs k read ws (last_day ws) (the_ledger ws) w c in
                record {
                  sound = v;
                  taken = e;
                  leaves = x.reads ∙ next_accepted terms p (last_day ws) (the_ledger ws) c e;
                  kept = subst (Kept terms p) (sym x.reads) x.kept;
                  holds = w;
                }
          ]

  -- an accepted call that told these figures and left these words
  pub record ExactlyWords (ws : List ℕ) (c : Call) (told left : List ℕ) : Type 0 where
    -- it is so of the ledger that the words hold, and the words afterwards hold the ledger afterwards
    pub before : Exactly p ρ terms (the_ledger ws) c
    pub afterwards : the_ledger left ≡ after p (the_ledger ws) c
    -- the figures are those of its steps, and of each of its big steps
    pub figures : told ≡ counted_steps p ρ (the_ledger ws) c
    pub tells : (d : Conf) (x : Big p ρ c (view p ρ (the_ledger ws)) d) → told ≡ told_by p ρ (the_ledger ws) c (view p ρ (the_ledger ws)) d x
    -- the view of the words afterwards is where the automaton's big steps end, and they end nowhere else
    pub ends : (d : Conf) → Ends p ρ c (view p ρ (the_ledger ws)) d ↔ (d ≡ view p ρ (the_ledger left))
    -- and no other sound ledger is shown so
    pub only : (m : Ledger) → Kept terms p m → Ends p ρ c (view p ρ (the_ledger ws)) (view p ρ m) → m ≡ the_ledger left

  pub words_exactly : (ws : List ℕ) (c : Call) (told : List ℕ) → (call_outcome terms bs ws c).answer ≡ done told → ExactlyWords ws c told (call_outcome terms bs ws c).words
  words_exactly ws c told h =
      let m = made ws c told h in
      let x = exactly p ρ ok terms (last_day ws) (the_ledger ws) m.sound c m.taken in
      let q = done_same told (figures p (the_ledger ws) c) (sym h ∙ ap (λ o. o.answer) (call_accepted terms bs k read ws (last_day ws) (the_ledger ws) m.holds c m.taken)) in
      record {
        before = x;
        afterwards = m.leaves;
        figures = q ∙ x.steps.told;
        tells = λ d y. q ∙ x.tells d y;
        ends = λ d. (λ y. (x.ends d).0 y ∙ ap (view p ρ) (sym m.leaves), λ y. (x.ends d).1 (y ∙ ap (view p ρ) m.leaves));
        only =
            λ l s y.
            kept_faithful p ρ ok terms l (the_ledger (call_outcome terms bs ws c).words) s m.kept ((x.ends (view p ρ l)).0 y ∙ ap (view p ρ) (sym m.leaves));
      }

  -- a refused call leaves every word, and so the view
  pub refused_still : (ws : List ℕ) (c : Call) (r : ℕ) → (call_outcome terms bs ws c).answer ≡ refusal r → (call_outcome terms bs ws c).words ≡ ws
  unfolding refused_or
  refused_still ws c r h = go _ refl
    where
      go : (x : ℕ) → first_refusal (ledger_refusals terms bs p ws ++ call_refusals terms p (last_day ws) (the_ledger ws) c) ≡ x → (call_outcome terms bs ws c).words ≡ ws
      go zero e = absurd (not_both _ r (sym (ap (λ o. o.answer) (outcome terms bs k read ws c 0 e)) ∙ h))
      go (suc x) e = ap (λ o. o.words) (outcome terms bs k read ws c (suc x) e)

  -- no step that a call asks for applies where it is refused so
  pub words_refused : (ws : List ℕ) (c : Call) (r : ℕ) → (call_outcome terms bs ws c).answer ≡ refusal r → Stepless r
      → StepFor p ρ c (view p ρ (the_ledger ws)) → ⊥
  unfolding refused_or
  words_refused ws c r h among v = checks (ledger_refusal terms bs p ws) refl
    where
      others : (r ≡ 17 → ⊥) × (r ≡ 24 → ⊥) × (r ≡ 18 → ⊥) × (r ≡ 21 → ⊥) × (r ≡ 26 → ⊥)
      others = stepless r among

      go : Holds terms bs k read ws (last_day ws) (the_ledger ws) → (x : ℕ) → call_refusal terms p (last_day ws) (the_ledger ws) c ≡ x → ⊥
      go w zero e = not_both _ r (sym (ap (λ o. o.answer) (call_accepted terms bs k read ws (last_day ws) (the_ledger ws) w c e)) ∙ h)
      go w (suc x) e =
          let q : r ≡ suc x = refusal_same r (suc x) (sym h ∙ ap (λ o. o.answer) (call_refused terms bs k read ws (last_day ws) (the_ledger ws) w c x e)) in
          refused_none p (passed_all p (read_passed bs k read)) ρ terms (last_day ws) (the_ledger ws) w.kept c x e (λ z. others.3 (q ∙ z)) (λ z. others.4 (q ∙ z)) v

      checks : (x : ℕ) → ledger_refusal terms bs p ws ≡ x → ⊥
      checks zero e = go (passes_holds terms bs k read ws (none_passes terms bs p ws e)) (call_refusal terms p (last_day ws) (the_ledger ws) c) refl
      checks (suc x) e =
          let q : r ≡ suc x =
          refusal_same r (suc x) (sym h ∙ ap (λ o. o.answer) (outcome terms bs k read ws c (suc x) (refused_first terms bs p ws x e _))) in
          elim (ledger_numbers terms bs p ws x e) [ inl z ↦ others.0 (q ∙ z) | inr y ↦ elim y [ inl z ↦ others.1 (q ∙ z) | inr z ↦ others.2 (q ∙ z) ] ]
