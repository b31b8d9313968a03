-- Calls under the wrong plan, as the code made them: after a begin that answered `Begun` and any calls under its plan, a call under a plan that
-- differs in length or in sum, with no more tracks, is answered 24 and leaves every word; entries hands back the empty part. Assumes nothing.
use Rattle.std.proofs.Common.{◌≡◌, sym, ap, ap₂, ◌∙◌, subst, List, [], ◌∷◌, ℕ, ◌≤◌}
use contract.Lifetimes.{Lfts}
use denote.Triple.Clauses.{AtExit}
use borrow.Fn.Kinds.{ended_of}
use borrow.Fn.World.{ArgsD, ResD}
use Rattle.rules.specs.declared.Counts.{Counts}
use Rattle.rules.specs.declared.Terms.{Terms}
use Rattle.rules.specs.declared.BeginAnswer.TheVariants.{Begun}
use Rattle.rules.specs.Plan.{track_count, plan_of}
use Rattle.rules.specs.Acceptance.{accepted, read_plan}
use Rattle.rules.specs.Call.{Answer, refusal, done, Outcome, Call, begin_outcome, call_outcome, ready_outcome, entries_part, Meets}
use Rattle.rules.specs.Answers.{begin_told, ready_told}
use Rattle.rules.specs.ReferenceRun.{words_after}
use Rattle.restoration.proofs.WrongPlan.{Differ, call_wrong, ready_wrong, entries_wrong}
use Rattle.manager.specs.contracts.calls.begin as begin
use Rattle.manager.proofs.calls.begin.Kinds as begin-kinds
use Rattle.manager.proofs.calls.begin.Reads as begin_reads
use Rattle.manager.specs.contracts.calls.ready as ready
use Rattle.manager.proofs.calls.ready.Kinds as ready-kinds
use Rattle.manager.proofs.calls.ready.Reads as ready-reads
use Rattle.manager.specs.contracts.calls.entries as entries
use Rattle.manager.proofs.calls.entries.Kinds as entries-kinds
use Rattle.manager.proofs.calls.entries.Reads as entries-reads
use Rattle.property3.proofs.Readings.{begin_meets}
use Rattle.property3.proofs.Calls.{Calls, call_meets, property3_of_calls}

-- a promise about an outcome that refuses
refused_as : {o : Outcome} {n : ℕ} {ws left : List ℕ} {told : Answer} → o ≡ record { answer = refusal n; words = ws } → Meets o told left
    → (told ≡ refusal n) × (left ≡ ws)
refused_as e m = (m.answered ∙ ap (λ (o : Outcome). o.answer) e, m.left ∙ ap (λ (o : Outcome). o.words) e)

-- a begin that answered `Begun`, and the calls after it
module _ (κs : Lfts 2) (a : ArgsD begin.signature κs) (r : ResD begin.signature κs) (s : AtExit (ended_of 2 begin-kinds.ps begin-kinds.r) κs)
    (post : begin_reads.Post κs a r s) (done-begin : r ≡ Begun) {cs : List Call} {rs : List Answer} {ws : List ℕ}
    (calls : Calls a.0 a.1.0.now s.1.1.0.now cs rs ws) where
  abbrev bs : List ℕ
  bs = a.1.0.now

  abbrev lent : List ℕ
  lent = a.1.1.0.now

  pub begun : (begin_outcome a.0 bs lent).answer ≡ done []
  unfolding begin_told
  begun = sym (begin_meets κs a r s post).answered ∙ ap begin_told done-begin

  pub words : ws ≡ words_after a.0 bs lent cs
  words = (property3_of_calls κs a r s post done-begin calls).2.word_for_word

  module _ (k : Counts) (read : read_plan bs ≡ accepted k) (bs' : List ℕ) (k' : Counts) (read' : read_plan bs' ≡ accepted k')
      (few : track_count (plan_of bs' k') ≤ track_count (plan_of bs k)) (differ : Differ bs bs') where
    -- an event, a signal or a firing
    pub wrong_plan_of_calls : {c : Call} {told : Answer} {left : List ℕ} → Calls a.0 bs' ws (c ∷ []) (told ∷ []) left → (told ≡ refusal 24) × (left ≡ ws)
    wrong_plan_of_calls {c} {told} {left} h =
        let w = call_wrong a.0 bs k read lent begun cs bs' k' read' few differ c in
        refused_as (subst (λ v. call_outcome a.0 bs' v c ≡ record { answer = refusal 24; words = v }) (sym words) w) (call_meets a.0 bs' h)

    -- ready
    pub wrong_plan_of_ready : (κs' : Lfts 2) (a' : ArgsD ready.signature κs') (r' : ResD ready.signature κs')
        (s' : AtExit (ended_of 2 ready-kinds.ps ready-kinds.r) κs') → ready-reads.Post κs' a' r' s' → a'.0 ≡ a.0 → a'.1.0.now ≡ bs' → a'.1.1.0.now ≡ ws
        → (ready_told r' ≡ refusal 24) × (s'.1.1.0.now ≡ ws)
    wrong_plan_of_ready κs' a' r' s' p l e q =
        let w = ready_wrong a.0 bs k read lent begun cs bs' k' read' few differ in
        refused_as
        (ap (λ (i : Terms). ready_outcome i a'.1.0.now a'.1.1.0.now) l ∙ ap₂ (ready_outcome a.0) e q ∙ subst (λ v. ready_outcome a.0 bs' v ≡ record { answer = refusal 24; words = v }) (sym words) w) p

    -- entries
    pub wrong_plan_of_entries : (κs' : Lfts 2) (a' : ArgsD entries.signature κs') (r' : ResD entries.signature κs')
        (s' : AtExit (ended_of 2 entries-kinds.ps entries-kinds.r) κs') → entries-reads.Post κs' a' r' s' → a'.0 ≡ a.0 → a'.1.0.now ≡ bs' → a'.1.1.0.now ≡ ws
        → r'.now ≡ []
    wrong_plan_of_entries κs' a' r' s' p l e q =
        p.held_as ∙ ap (λ (i : Terms). entries_part i a'.1.0.now a'.1.1.0.now a'.1.1.1.0) l ∙ ap₂ (λ u v. entries_part a.0 u v a'.1.1.1.0) e (q ∙ words)
        ∙ entries_wrong a.0 bs k read lent begun cs bs' k' read' few differ a'.1.1.1.0
