-- Isolation, of calls as the code made them: two lists of calls after one begin that answered `Begun`, whose calls of one society are the same,
-- gave that society the same answers; and ready and entries, called on what both left, give the same bits and the same parts under its roots. The
-- calls' own promises make words and answers those of the reference run, and of that it is proved. Assumes nothing.
use Rattle.std.proofs.Common.{◌≡◌, sym, ap, ap₂, ◌∙◌, subst, true, false, List, ℕ}
use contract.Lifetimes.{Lfts}
use denote.Triple.Clauses.{AtExit}
use borrow.Fn.Kinds.{ended_of}
use borrow.Fn.World.{ArgsD, ResD}
use Rattle.rules.specs.declared.Counts.{Counts}
use Rattle.rules.specs.declared.Terms.{Terms}
use Rattle.rules.specs.declared.BeginAnswer.TheVariants.{Begun}
use Rattle.rules.specs.Plan.{Plan, plan_of}
use Rattle.rules.specs.Acceptance.{accepted, read_plan}
use Rattle.rules.specs.Call.{Answer, Call, begin_outcome, ready_outcome, entries_part, Meets}
use Rattle.rules.specs.Answers.{begin_told, ready_told}
use Rattle.rules.specs.ReferenceRun.{words_from, words_after, answers_from, answers_after}
use Rattle.rules.specs.History.{History}
use Rattle.rules.specs.Isolation.{Alone, is_under, own_calls, ready_bit, is_over_now, lasts, Isolated}
use Rattle.isolation.proofs.Isolation.{isolation}
use Rattle.manager.specs.contracts.calls.begin as begin
use Rattle.manager.proofs.calls.begin.Kinds as begin-kinds
use Rattle.manager.proofs.calls.begin.Reads as begin_reads
use Rattle.manager.specs.contracts.calls.ready as ready
use Rattle.manager.proofs.calls.ready.Kinds as ready-kinds
use Rattle.manager.proofs.calls.ready.Reads as ready-reads
use Rattle.manager.specs.contracts.calls.entries as entries
use Rattle.manager.proofs.calls.entries.Kinds as entries-kinds
use Rattle.manager.proofs.calls.entries.Reads as entries-reads
use Rattle.property3.proofs.Property3.{follows}
use Rattle.property3.proofs.Readings.{begin_meets}
use Rattle.property3.proofs.Calls.{Calls, made}

-- Of histories, at any limit: a begin that was accepted, and two lists of calls after it.
pub isolation_of_histories : (terms : Terms) (bs lent ws : List ℕ) → Meets (begin_outcome terms bs lent) (begin_told Begun) ws
    → (k : Counts) → read_plan bs ≡ accepted k → (own : ℕ) → Alone (plan_of bs k) own
    → {cs ds : List Call} {rs ss : List Answer} {end end' : List ℕ} → History terms bs ws cs rs end → History terms bs ws ds ss end'
    → own_calls own cs ≡ own_calls own ds → lasts terms bs (plan_of bs k) own ws cs ≡ true → lasts terms bs (plan_of bs k) own ws ds ≡ true
    → Isolated terms bs (plan_of bs k) own cs rs end ds ss end'
unfolding begin_told words_after answers_after
isolation_of_histories terms bs lent ws m k read own alone {cs} {ds} {rs} {ss} {end} {end'} h g q x y =
    let (e, r) = follows terms bs h in
    let (e', r') = follows terms bs g in
    let w = m.left in
    let i =
    isolation terms bs k read lent (sym m.answered) own alone cs ds q (subst (λ v. lasts terms bs (plan_of bs k) own v cs ≡ true) w x)
    (subst (λ v. lasts terms bs (plan_of bs k) own v ds ≡ true) w y) in
    rw (
      e ∙ ap (λ v. words_from terms bs v cs) w,
      e' ∙ ap (λ v. words_from terms bs v ds) w,
      r ∙ ap (λ v. answers_from terms bs v cs) w,
      r' ∙ ap (λ v. answers_from terms bs v ds) w,
    ) i

-- a begin that answered `Begun`, and two lists of calls after it, whose calls of a society that is alone over its roots are the same
module _ (κs : Lfts 2) (a : ArgsD begin.signature κs) (r : ResD begin.signature κs) (s : AtExit (ended_of 2 begin-kinds.ps begin-kinds.r) κs)
    (post : begin_reads.Post κs a r s) (done-begin : r ≡ Begun) (k : Counts) (read : read_plan a.1.0.now ≡ accepted k)
    (own : ℕ) (alone : Alone (plan_of a.1.0.now k) own) {cs ds : List Call} {rs ss : List Answer} {end end' : List ℕ}
    (calls : Calls a.0 a.1.0.now s.1.1.0.now cs rs end) (calls' : Calls a.0 a.1.0.now s.1.1.0.now ds ss end')
    (same : own_calls own cs ≡ own_calls own ds)
    (lasting : lasts a.0 a.1.0.now (plan_of a.1.0.now k) own s.1.1.0.now cs ≡ true)
    (lasting' : lasts a.0 a.1.0.now (plan_of a.1.0.now k) own s.1.1.0.now ds ≡ true) where
  abbrev bs : List ℕ
  bs = a.1.0.now

  abbrev p : Plan
  p = plan_of bs k

  -- "the same answers to its events, signals and fires", and what ready and entries would tell
  pub isolation_of_calls : Isolated a.0 bs p own cs rs end ds ss end'
  isolation_of_calls =
      isolation_of_histories a.0 bs a.1.1.0.now s.1.1.0.now
      (subst (λ x. Meets (begin_outcome a.0 bs a.1.1.0.now) (begin_told x) s.1.1.0.now) done-begin (begin_meets κs a r s post))
      k read own alone (made a.0 bs calls) (made a.0 bs calls') same lasting lasting'

  -- "and the same ready bits and entries under its roots", of calls made on what the two lists left, neither ledger being over
  module _ (going : is_over_now a.0 bs p end ≡ false) (going' : is_over_now a.0 bs p end' ≡ false) where
    pub isolation_of_ready : (κs₁ : Lfts 2) (a₁ : ArgsD ready.signature κs₁) (r₁ : ResD ready.signature κs₁)
        (s₁ : AtExit (ended_of 2 ready-kinds.ps ready-kinds.r) κs₁) → ready-reads.Post κs₁ a₁ r₁ s₁ → a₁.0 ≡ a.0 → a₁.1.0.now ≡ bs → a₁.1.1.0.now ≡ end
        → (κs₂ : Lfts 2) (a₂ : ArgsD ready.signature κs₂) (r₂ : ResD ready.signature κs₂)
        (s₂ : AtExit (ended_of 2 ready-kinds.ps ready-kinds.r) κs₂) → ready-reads.Post κs₂ a₂ r₂ s₂ → a₂.0 ≡ a.0 → a₂.1.0.now ≡ bs → a₂.1.1.0.now ≡ end'
        → (t : ℕ) → is_under p own t ≡ true → ready_bit (ready_told r₁) t ≡ ready_bit (ready_told r₂) t
    isolation_of_ready κs₁ a₁ r₁ s₁ p₁ l₁ e₁ q₁ κs₂ a₂ r₂ s₂ p₂ l₂ e₂ q₂ t i =
        ap (λ x. ready_bit x t) (p₁.answered ∙ ap (λ (i : Terms). (ready_outcome i a₁.1.0.now a₁.1.1.0.now).answer) l₁ ∙ ap₂ (λ u v. (ready_outcome a.0 u v).answer) e₁ q₁)
        ∙ isolation_of_calls.ready going going' t i
        ∙ sym (ap (λ x. ready_bit x t) (p₂.answered ∙ ap (λ (i : Terms). (ready_outcome i a₂.1.0.now a₂.1.1.0.now).answer) l₂ ∙ ap₂ (λ u v. (ready_outcome a.0 u v).answer) e₂ q₂))

    pub isolation_of_entries : (κs₁ : Lfts 2) (a₁ : ArgsD entries.signature κs₁) (r₁ : ResD entries.signature κs₁)
        (s₁ : AtExit (ended_of 2 entries-kinds.ps entries-kinds.r) κs₁) → entries-reads.Post κs₁ a₁ r₁ s₁ → a₁.0 ≡ a.0 → a₁.1.0.now ≡ bs → a₁.1.1.0.now ≡ end
        → (κs₂ : Lfts 2) (a₂ : ArgsD entries.signature κs₂) (r₂ : ResD entries.signature κs₂)
        (s₂ : AtExit (ended_of 2 entries-kinds.ps entries-kinds.r) κs₂) → entries-reads.Post κs₂ a₂ r₂ s₂ → a₂.0 ≡ a.0 → a₂.1.0.now ≡ bs → a₂.1.1.0.now ≡ end'
        → a₁.1.1.1.0 ≡ a₂.1.1.1.0 → is_under p own a₁.1.1.1.0 ≡ true → r₁.now ≡ r₂.now
    isolation_of_entries κs₁ a₁ r₁ s₁ p₁ l₁ e₁ q₁ κs₂ a₂ r₂ s₂ p₂ l₂ e₂ q₂ o i =
        p₁.held_as ∙ ap (λ (i : Terms). entries_part i a₁.1.0.now a₁.1.1.0.now a₁.1.1.1.0) l₁ ∙ ap₂ (λ u v. entries_part a.0 u v a₁.1.1.1.0) e₁ q₁
        ∙ isolation_of_calls.entries going going' a₁.1.1.1.0 i
        ∙ ap (entries_part a.0 bs end') o
        ∙ sym (p₂.held_as ∙ ap (λ (i : Terms). entries_part i a₂.1.0.now a₂.1.1.0.now a₂.1.1.1.0) l₂ ∙ ap₂ (λ u v. entries_part a.0 u v a₂.1.1.1.0) e₂ q₂)
