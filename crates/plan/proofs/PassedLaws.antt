-- What refusals 9 and 10 leave known where they passed, and the reader's figures in the words that the code reads. Assumes nothing.
use Rattle.std.proofs.Common.{◌≡◌, sym, ap, ◌∙◌, false, List, ℕ, ◌<◌, arith, get_or}
use Rattle.std.proofs.Math.Option.{some}
use Rattle.rules.specs.declared.Counts.{Counts}
use Rattle.rules.specs.Fold.{some_below}
use Rattle.rules.specs.Plan.{Plan, plan_of, state_count, no_state, host_word, owner, first, first_state}
use Rattle.rules.specs.Acceptance.{bad_state, bad_host}
use Rattle.rules.proofs.Folds.{some_not, get_d_tabulate}
use Rattle.rules.proofs.Heights.{host_facts}
use Rattle.plan.specs.Passes.{slots, state_slots, first_among, first_marks}
use Rattle.plan.specs.Holds.{Holds}
use Rattle.plan.proofs.FieldLaws.{track_count_lem, state_count_lem}
use Rattle.plan.proofs.Hosting.{host_some}
use Rattle.plan.proofs.RefusalTests.{owner_passed}

-- 10 passed
pub host_passed : (p : Plan) (t h : ℕ) → h ≡ host_word p t → (h ≡ no_state → ⊥) → bad_host p t ≡ false → (h < state_count p) × (owner p h < t)
host_passed p t h e n f = host_facts p t h f (host_some p t (λ q. n (e ∙ q)) ∙ ap some (sym e))

module _ (bs : List ℕ) (c : Counts) (holds : Holds bs c) where
  -- where 10 passed, in the counts
  pub host_low : (t h : ℕ) → t < c.tracks → h ≡ host_word (plan_of bs c) t → (h ≡ no_state → ⊥) → bad_host (plan_of bs c) t ≡ false
      → (h < c.states) × (h < state_slots) × (owner (plan_of bs c) h < slots)
  host_low t h l e n f =
      let (a, b) = host_passed (plan_of bs c) t h e n f in
      let z : h < c.states = rw state_count_lem at a in
      let x = holds.states in
      let y = holds.tracks in
      (z, omega arith, omega arith)

  -- where 9 passed, each state's track is a track
  module _ (passed : some_below c.states (bad_state (plan_of bs c)) ≡ false) where
    pub owner_low : (s : ℕ) → s < c.states → owner (plan_of bs c) s < slots
    owner_low s l =
        let b = rw track_count_lem at (owner_passed (plan_of bs c) s (some_not c.states (bad_state (plan_of bs c)) passed s l)) in
        let n = holds.tracks in
        omega arith

    pub first_read : (ms : List ℕ) (t f : ℕ) → t < c.tracks → ms ≡ first_marks (plan_of bs c) c.states → f ≡ get_or ms t 0
        → f ≡ first_state (plan_of bs c) t
    unfolding first_marks first_among first_state first
    first_read ms t f l e g =
        let n = holds.tracks in
        g
        ∙ ap (λ v. get_or v t 0) (e ∙ ap (first_marks (plan_of bs c)) (sym (state_count_lem bs c)))
        ∙ get_d_tabulate slots t (first_among (plan_of bs c) (state_count (plan_of bs c))) 0 (omega arith)
