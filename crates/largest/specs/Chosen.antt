-- The path that is shown. "which of several equal paths is free": this one takes from each state the lowest-numbered of the transitions behind
-- which the most lies, until nothing more is to be had. Assumes nothing.
use Rattle.std.specs.Prelude.{cond, List, [], ◌∷◌, ℕ, zero, suc, ◌+◌, ltb, eqb}
use Rattle.std.proofs.Math.Option.{Option, none, some}
use Rattle.rules.specs.Names.{Bytes, TrackNumber, StateNumber, TransitionNumber}
use Rattle.rules.specs.Fold.{greatest_below, first_below}
use Rattle.rules.specs.Plan.{Plan, plan_of, track_count, state_count, transition_count, transition, first_state}
use Rattle.rules.specs.Acceptance.{turned_back, accepted}
use Rattle.rules.specs.Largest.{no_transition, of_transition, leaves, most_within, read_bounded}

module _ (p : Plan) where
  -- the most entries from a state on
  unfoldable pub most_from : StateNumber → ℕ
  most_from s = most_within p (state_count p) s

  -- what a transition that leaves the state adds with the most that lies behind it; 0 of any other
  unfoldable pub gain : StateNumber → TransitionNumber → ℕ
  gain s x = cond (leaves p s x) (of_transition p x + most_from (transition p x).destination) 0

  unfoldable pub best_gain : StateNumber → ℕ
  best_gain s = greatest_below (transition_count p) (gain s)

  -- the transition that the path takes from a state
  unfoldable pub step_from : StateNumber → Option TransitionNumber
  step_from s = cond (eqb (best_gain s) 0) none (first_below (transition_count p) (λ x. eqb (gain s x) (best_gain s)))

  -- as a word, 65535 where it ends
  unfoldable pub step_word : StateNumber → ℕ
  step_word s = elim (step_from s) [ none ↦ no_transition | some x ↦ x ]

  unfoldable pub chosen_within : ℕ → StateNumber → List TransitionNumber
  chosen_within zero s = []
  chosen_within (suc n) s = elim (step_from s) [ none ↦ [] | some x ↦ x ∷ chosen_within n (transition p x).destination ]

  -- without a cycle a path has fewer transitions than there are states
  unfoldable pub chosen : StateNumber → List TransitionNumber
  chosen s = chosen_within (state_count p) s

  -- the path of a track
  unfoldable pub track_path : TrackNumber → List TransitionNumber
  track_path t = chosen (first_state p t)

-- the path shown of a track; none where the plan is refused or there is no such track
unfoldable pub shown_path : Bytes → TrackNumber → List TransitionNumber
shown_path bs t =
    elim (read_bounded bs) [
      | turned_back r ↦ []
      | accepted c ↦ cond (ltb t (track_count (plan_of bs c))) (track_path (plan_of bs c) t) []
    ]
