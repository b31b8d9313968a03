-- Every list of calls from a begin on is a run of the automaton from init, one call's steps after the other's. It leads to what the ledger
-- shows; where the list ends over, to a vector that has terminated, by the call that finishes. The big steps of the calls end there and nowhere
-- else. And where every root is withdrawn the vector has compensated, so that the calls' steps have cancelled out. Assumes nothing.
use mathlib.Core.Path.{◌≡◌, refl, sym, ap, ◌∙◌, subst}
use mathlib.Core.Logic.{◌↔◌, ◌⊎◌, inl, inr}
use mathlib.Core.Bool.{true, cond}
use mathlib.Core.List.{List, [], ◌∷◌, ◌++◌}
use Prim.Native.Nat.{ℕ, zero, suc, ◌<◌}
use native.Mathlib.Omega.{arith}
use Rattle.rules.specs.declared.Counts.{Counts}
use Rattle.rules.specs.Names.{Day}
use Rattle.rules.specs.declared.Terms.{Terms}
use Rattle.rules.specs.Day.{earliest_day}
use Rattle.rules.specs.Plan.{Plan, track_count, plan_of, is_root}
use Rattle.rules.specs.Acceptance.{accepted, read_plan}
use Rattle.rules.specs.Ledger.{Configuration, Ledger, is_awake, is_empty, ledger_at}
use Rattle.rules.specs.Opening.{begun}
use Rattle.rules.specs.Call.{done, Call, call_refusal, after, next, call_outcome, begin_outcome}
use Rattle.rules.specs.ReferenceRun.{words_from, words_after, ledger_after, AllWithdrawn}
use Rattle.rules.proofs.Tests.{look, clash}
use Rattle.rules.proofs.Acceptance.{Accepted, accepts}
use Rattle.rules.proofs.Scopes.{root_of_lem}
use Rattle.rules.proofs.Abandoning.{undoing_awake}
use Rattle.rules.proofs.Modes.{is_undoing_lem}
use Rattle.theory.proofs.Nesting.{Awake, Nested}
use Rattle.theory.proofs.SoundBegin.{begun_sound}
use Rattle.theory.proofs.SoundEvent.{bare_of}
use Rattle.restoration.proofs.Document01.{laws01}
use Rattle.restoration.proofs.Restoration.{list_holds}
use Rattle.restoration.proofs.SoundWords.{Holds, begin_holds, call_holds, call_accepted, call_refused}
use Rattle.restoration.proofs.Theorems01.{over_refused, next_accepted, next_refused, day_refused, sleeping_asleep, Sound, Over, Kept, over_is}
use Rattle.automaton.specs.Configuration.{Conf, Vect, has_terminated, has_compensated, init}
use Rattle.automaton.specs.Semantics.{FailReading, Act, Run, stop}
use Rattle.automaton.specs.View.{is_on_top, view_of, view, acts_of}
use Rattle.automaton.specs.BigSteps.{after_finish}
use Rattle.automaton.specs.Along.{made, acts_from, acts_after, Answered, EndsFrom, Played}
use Rattle.automaton.specs.SelfCancelling.{projected, canc_out, PerfectAt}
use Rattle.automaton.proofs.Listings.{run_then, run_same}
use Rattle.automaton.proofs.Frames.{top_parts}
use Rattle.automaton.proofs.Entered.{begin_init}
use Rattle.automaton.proofs.Terminated.{view_compensated, compensated_of}
use Rattle.automaton.proofs.CallSteps.{stepwise}
use Rattle.automaton.proofs.Faithful.{over_unlike}
use Rattle.automaton.proofs.Exactly.{exactly}
use Rattle.automaton.proofs.SelfCancelling.{corollary1}

module _ (p : Plan) (ρ : FailReading) (ok : Accepted p) where
  -- unless the call finishes, the steps lead to the view afterwards
  goes_on : (terms : Terms) (m : Ledger) (reached : Conf) → Sound terms p m → view p ρ m ≡ after_finish p reached → reached ≡ view p ρ m
  unfolding after_finish
  goes_on terms m reached s e =
      elim (look (has_terminated p reached)) [
        | inl h ↦ absurd (over_unlike p ρ ok terms m s (e ∙ ap (λ x. cond x (Vect []) reached) h))
        | inr h ↦ sym (e ∙ ap (λ x. cond x (Vect []) reached) h)
      ]

  shown_or_ended : (m : Ledger) (reached : Conf) → view p ρ m ≡ after_finish p reached
      → (view p ρ m ≡ reached) ⊎ ((has_terminated p reached ≡ true) × (view p ρ m ≡ Vect []))
  unfolding after_finish
  shown_or_ended m reached e =
      elim (look (has_terminated p reached)) [
        | inl h ↦ inr (h, e ∙ ap (λ x. cond x (Vect []) reached) h)
        | inr h ↦ inl (e ∙ ap (λ x. cond x (Vect []) reached) h)
      ]

  -- steps before it
  joined : {c d : Conf} {v w : List Act} {l : Ledger} → Run p ρ c v d → Played p ρ d w l → Played p ρ c (v ++ w) l
  joined r q = record { reached = q.reached; run = run_then p ρ r q.run; shown = q.shown }

  -- "if every root is undoing, holds nothing and has no open scope": the vector has compensated
  pub withdrawn_compensated : (l : Ledger) → Nested p l → AllWithdrawn p l → has_compensated p (view p ρ l) ≡ true
  unfolding view is_empty
  withdrawn_compensated l n w =
      compensated_of p (is_on_top p l) (view_of p ρ l)
      (λ t b y.
      let (e, a) = top_parts p l t y in
      let d = w t b (root_of_lem p t e) in
      view_compensated p ρ ok l n t a
      ∙ bare_of p l t (is_undoing_lem (l t).mode d.undoing) (ap is_empty d.empty) d.shut)

module _ (ρ : FailReading) (terms : Terms) (bs : List ℕ) (k : Counts) (read : read_plan bs ≡ accepted k) where
  abbrev p : Plan
  p = plan_of bs k

  ok : Accepted p
  ok = accepts bs k read

  abbrev led : List ℕ → Ledger
  led ws = ledger_at terms ws (track_count p)

  abbrev Held : List ℕ → Day → Ledger → Type 0
  Held ws d l = Holds terms bs k read ws d l

  not_zero : {r n : ℕ} → n ≡ suc r → n ≡ 0 → ⊥
  not_zero {r} {n} e z = omega arith

  -- one call
  module _ (ws : List ℕ) (d : Day) (l : Ledger) (h : Held ws d l) (c : Call) where
    abbrev words : List ℕ
    words = (call_outcome terms bs ws c).words

    abbrev here : List Act
    here = made (call_outcome terms bs ws c).answer (acts_of p ρ (led ws) c)

    no_acts : (r : ℕ) → call_refusal terms p d l c ≡ suc r → here ≡ []
    no_acts r e =
        ap (λ x. made x (acts_of p ρ (led ws) c)) (ap (λ o. o.answer) (call_refused terms bs k read ws d l h c r e)) ∙ (unfold made in refl)

    some_acts : call_refusal terms p d l c ≡ 0 → here ≡ acts_of p ρ l c
    some_acts e =
        ap (λ x. made x (acts_of p ρ (led ws) c)) (ap (λ o. o.answer) (call_accepted terms bs k read ws d l h c e))
        ∙ (unfold made in ap (λ m. acts_of p ρ m c) h.reads)

    still : (r : ℕ) → call_refusal terms p d l c ≡ suc r → Held words d l
    still r e =
        subst (Held words d) (next_refused terms p d l c (λ z. not_zero e z))
        (subst (λ x. Held words x (next terms p d l c)) (day_refused terms p d l c (λ z. not_zero e z)) (call_holds terms bs k read ws d l h c))

    refused_of : Over l → (r : ℕ) × (call_refusal terms p d l c ≡ suc r)
    refused_of o = go (call_refusal terms p d l c) refl
      where
        go : (n : ℕ) → call_refusal terms p d l c ≡ n → (r : ℕ) × (call_refusal terms p d l c ≡ suc r)
        go zero e = absurd (over_refused terms p d l (over_is p l o) c e)
        go (suc r) e = (r, e)

  -- over: no more steps, and nothing changes
  over_rest : (cs : List Call) (ws : List ℕ) (d : Day) (l : Ledger) → Held ws d l → Over l → (acts_from terms bs p ρ ws cs ≡ []) × (led (words_from terms bs ws cs) ≡ l)
  unfolding words_from acts_from
  over_rest [] ws d l h o = (refl, h.reads)
  over_rest (c ∷ cs) ws d l h o =
      let (r, e) = refused_of ws d l h c o in
      let (x, y) = over_rest cs (words ws d l h c) d l (still ws d l h c r e) o in
      (ap (λ v. v ++ acts_from terms bs p ρ (words ws d l h c) cs) (no_acts ws d l h c r e) ∙ x, y)

  from_run : (cs : List Call) (ws : List ℕ) (d : Day) (l : Ledger) → Held ws d l → Sound terms p l → Played p ρ (view p ρ l) (acts_from terms bs p ρ ws cs) (led (words_from terms bs ws cs))
  unfolding words_from acts_from
  from_run [] ws d l h s = record { reached = view p ρ l; run = stop; shown = inl (ap (view p ρ) h.reads) }
  from_run (c ∷ cs) ws d l h s = go (call_refusal terms p d l c) refl (λ b m g v. from_run cs (words ws d l h c) b m g v)
    where
      rest : List Act
      rest = acts_from terms bs p ρ (words ws d l h c) cs

      last : Ledger
      last = led (words_from terms bs (words ws d l h c) cs)

      Rest : Type 0
      Rest = (b : Day) (m : Ledger) → Held (words ws d l h c) b m → Sound terms p m → Played p ρ (view p ρ m) rest last

      took : call_refusal terms p d l c ≡ 0 → Kept terms p (next terms p d l c) → Rest → Played p ρ (view p ρ l) (acts_of p ρ l c ++ rest) last
      took e (inr v) ih =
          let x = stepwise p ρ ok terms d l s c e in
          let q = ap (view p ρ) (next_accepted terms p d l c e) ∙ x.left in
          joined p ρ ok (run_same p ρ x.run (goes_on p ρ ok terms (next terms p d l c) x.reached v q)) (ih _ (next terms p d l c) (call_holds terms bs k read ws d l h c) v)
      took e (inl o) ih =
          let x = stepwise p ρ ok terms d l s c e in
          let q = ap (view p ρ) (next_accepted terms p d l c e) ∙ x.left in
          let (a, b) = over_rest cs (words ws d l h c) _ (next terms p d l c) (call_holds terms bs k read ws d l h c) o in
          joined p ρ ok x.run
          (subst (λ z. Played p ρ x.reached z last) (sym a)
          (subst (λ z. Played p ρ x.reached [] z) (sym b) (record { reached = x.reached; run = stop; shown = shown_or_ended p ρ ok (next terms p d l c) x.reached q })))

      go : (n : ℕ) → call_refusal terms p d l c ≡ n → Rest → Played p ρ (view p ρ l) (here ws d l h c ++ rest) last
      go zero e ih =
          subst (λ z. Played p ρ (view p ρ l) (z ++ rest) last) (sym (some_acts ws d l h c e)) (took e (call_holds terms bs k read ws d l h c).kept ih)
      go (suc r) e ih = subst (λ z. Played p ρ (view p ρ l) (z ++ rest) last) (sym (no_acts ws d l h c r e)) (ih d l (still ws d l h c r e) s)

  -- every list of calls
  pub list_run : (lent : List ℕ) (cs : List Call) → (begin_outcome terms bs lent).answer ≡ done []
      → Played p ρ (init p (is_root p)) (acts_after terms bs p ρ lent cs) (ledger_after terms bs p lent cs)
  unfolding ledger_after words_after acts_after
  list_run lent cs h =
      let w = (begin_outcome terms bs lent).words in
      subst (λ z. Played p ρ z (acts_from terms bs p ρ w cs) (led (words_from terms bs w cs))) (begin_init p ok ρ)
      (from_run cs w earliest_day (begun p) (begin_holds terms bs k read lent h) (begun_sound laws01 terms p ok))

  -- a call answers and leaves what its big steps end in, and nothing else; a refused one stays
  answered : (ws : List ℕ) (d : Day) (l : Ledger) → Held ws d l → (c : Call) (b : Conf)
      → Answered p ρ (call_outcome terms bs ws c).answer c (view p ρ l) b ↔ (b ≡ view p ρ (next terms p d l c))
  answered ws d l h c b = go h.kept (call_refusal terms p d l c) refl
    where
      go : Kept terms p l → (r : ℕ) → call_refusal terms p d l c ≡ r
          → Answered p ρ (call_outcome terms bs ws c).answer c (view p ρ l) b ↔ (b ≡ view p ρ (next terms p d l c))
      go (inl o) zero e = absurd (over_refused terms p d l (over_is p l o) c e)
      go (inr s) zero e =
          subst (λ m. Answered p ρ (call_outcome terms bs ws c).answer c (view p ρ l) b ↔ (b ≡ view p ρ m)) (sym (next_accepted terms p d l c e))
          (subst (λ a. Answered p ρ a c (view p ρ l) b ↔ (b ≡ view p ρ (after p l c)))
          (sym (ap (λ o. o.answer) (call_accepted terms bs k read ws d l h c e)))
          (unfold Answered in (exactly p ρ ok terms d l s c e).ends b))
      go w (suc r) e =
          subst (λ m. Answered p ρ (call_outcome terms bs ws c).answer c (view p ρ l) b ↔ (b ≡ view p ρ m)) (sym (next_refused terms p d l c (λ z. not_zero e z)))
          (subst (λ a. Answered p ρ a c (view p ρ l) b ↔ (b ≡ view p ρ l))
          (sym (ap (λ o. o.answer) (call_refused terms bs k read ws d l h c r e)))
          (unfold Answered in (λ q. q, λ q. q)))

  from_ends : (cs : List Call) (ws : List ℕ) (d : Day) (l : Ledger) → Held ws d l → (b : Conf)
      → EndsFrom terms bs p ρ ws cs (view p ρ l) b ↔ (b ≡ view p ρ (led (words_from terms bs ws cs)))
  unfolding EndsFrom words_from
  from_ends [] ws d l h b = let e = ap (view p ρ) h.reads in (λ q. q ∙ sym e, λ q. q ∙ e)
  from_ends (c ∷ cs) ws d l h b =
      let m = next terms p d l c in
      let rest = from_ends cs (call_outcome terms bs ws c).words _ m (call_holds terms bs k read ws d l h c) b in (
        λ x.
            let (e, a, y) = x in
            rest.0 (subst (λ z. EndsFrom terms bs p ρ (call_outcome terms bs ws c).words cs z b) ((answered ws d l h c e).0 a) y),
        λ q. (view p ρ m, (answered ws d l h c (view p ρ m)).1 refl, rest.1 q),
      )

  -- Proposition 1, over a list of calls: the big steps from init end in what the ledger shows, and nowhere else
  pub list_ends : (lent : List ℕ) (cs : List Call) → (begin_outcome terms bs lent).answer ≡ done [] → (d : Conf)
      → EndsFrom terms bs p ρ (begin_outcome terms bs lent).words cs (init p (is_root p)) d ↔ (d ≡ view p ρ (ledger_after terms bs p lent cs))
  unfolding ledger_after words_after
  list_ends lent cs h d =
      let w = (begin_outcome terms bs lent).words in
      subst (λ z. EndsFrom terms bs p ρ w cs z d ↔ (d ≡ view p ρ (led (words_from terms bs w cs)))) (begin_init p ok ρ)
      (from_ends cs w earliest_day (begun p) (begin_holds terms bs k read lent h) d)

  kept_sound : (l : Ledger) → Kept terms p l → (t : ℕ) → Awake l t → Sound terms p l
  kept_sound l (inl o) t a = clash a (ap (λ (c : Configuration). is_awake c.mode) (o t) ∙ sleeping_asleep)
  kept_sound l (inr s) t a = s

  -- Self-cancelling, of lists of calls: where every root is withdrawn, what the calls did and took back of each root cancels out.
  pub calls_cancel : (comp : ℕ → ℕ) (lent : List ℕ) (cs : List Call) → (begin_outcome terms bs lent).answer ≡ done []
      → AllWithdrawn p (ledger_after terms bs p lent cs)
      → (A : ℕ) → PerfectAt comp p A → A < track_count p → is_root p A ≡ true → canc_out comp (projected A (acts_after terms bs p ρ lent cs)) ≡ []
  calls_cancel comp lent cs h w A perfect b r =
      let l = ledger_after terms bs p lent cs in
      let a : Awake l A = undoing_awake (l A).mode (is_undoing_lem (l A).mode (w A b r).undoing) in
      let s = sound_after a in
      let q = list_run lent cs h in
      elim q.shown [
        | inr o ↦ absurd (over_unlike p ρ ok terms l s o.1)
        | inl e ↦
            corollary1 p ρ ok comp A perfect (acts_after terms bs p ρ lent cs) (view p ρ l) (run_same p ρ q.run (sym e))
            (withdrawn_compensated p ρ ok l s.formed.nested w) b r
      ]
    where
      sound_after : Awake (ledger_after terms bs p lent cs) A → Sound terms p (ledger_after terms bs p lent cs)
      sound_after a =
          unfold ledger_after words_after in
          let (b, m, g) = list_holds terms bs k read cs (begin_outcome terms bs lent).words earliest_day (begun p) (begin_holds terms bs k read lent h) in
          kept_sound (ledger_after terms bs p lent cs) (subst (Kept terms p) (sym g.reads) g.kept) A a
