-- What the reader's pass over the states leaves, for an accepted plan: every state's track exists, and a track's figure is its first state.
-- Assumes nothing.
use Rattle.std.proofs.Common.{◌≡◌, refl, ap, ◌∙◌, false, List, ℕ, length, get_or}
use Rattle.rules.specs.declared.Counts.{Counts}
use Rattle.rules.specs.Fold.{some_below}
use Rattle.rules.specs.Plan.{Plan, plan_of, first_state}
use Rattle.rules.specs.Acceptance.{bad_state}
use Rattle.rules.proofs.Folds.{some_none, length-tabulate_lem}
use Rattle.rules.proofs.Acceptance.{passed_all, read_passed}
use Rattle.plan.specs.Passes.{slots, first_among, first_marks}
use Rattle.plan.proofs.FieldLaws.{state_count_lem}
use Rattle.plan.proofs.PassedLaws.{first_read}
use Rattle.ledger.specs.Ladder.{Accepts}
use Rattle.lookup.specs.Figures.{Figures}

one_each : (p : Plan) (n : ℕ) → length (first_marks p n) ≡ slots
unfolding first_marks
one_each p n = length-tabulate_lem slots (first_among p n)

module _ (bs : List ℕ) (c : Counts) (acc : Accepts bs c) where
  pub states_passed : some_below c.states (bad_state (plan_of bs c)) ≡ false
  states_passed =
      some_none c.states (bad_state (plan_of bs c)) (λ s l. (passed_all (plan_of bs c) (read_passed bs c acc.read)).states s (rw state_count_lem l))

  pub first_figures : {fs : List ℕ} → fs ≡ first_marks (plan_of bs c) c.states → Figures 0 fs c.tracks (first_state (plan_of bs c))
  first_figures {fs} e =
      record {
        size = ap length e ∙ one_each (plan_of bs c) c.states;
        at = λ t l. first_read bs c acc.holds states_passed fs t (get_or fs t 0) l e refl;
      }
