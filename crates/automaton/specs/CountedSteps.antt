-- The figures of a call as numbers of its steps. Assumes nothing.
use Rattle.std.specs.Prelude.{Bool, not, ◌&&◌, List, [], ◌∷◌, ◌++◌, ℕ, ◌+◌}
use Rattle.rules.specs.Names.{Society}
use Rattle.rules.specs.Fold.{count_below}
use Rattle.rules.specs.Plan.{Plan, track_count}
use Rattle.rules.specs.Rights.{signal_right, is_permitted}
use Rattle.rules.specs.Ledger.{Ledger, is_forward}
use Rattle.rules.specs.Call.{Call, event, signal, fire}
use Rattle.automaton.specs.Semantics.{FailReading}
use Rattle.automaton.specs.View.{is_turning, acts_of}
use Rattle.automaton.specs.StepTests.{is_suc, is_nestsuc, is_fail, number_of, codes_in, deviation_in}

module _ (p : Plan) (ρ : FailReading) (l : Ledger) where
  -- a forward track that the society may turn and FAIL does not: a host of an open scope, which document 01's Signal turns at once. There is none
  -- where FAIL turns nested configurations too
  unfoldable pub is_turned_early : Society → ℕ → Bool
  is_turned_early society t = (is_permitted p signal_right society t && is_forward (l t).mode) && not (is_turning p ρ society l t)

  -- The figures. Moved and closed are the numbers of SUC and NESTSUC; turned is the number of FAIL and of the hosts that turn early; a
  -- firing's code is the label of its COMP, its deviation the state of its DEV
  unfoldable pub counted_steps : Call → List ℕ
  counted_steps (event a) = number_of is_suc (acts_of p ρ l (event a)) ∷ number_of is_nestsuc (acts_of p ρ l (event a)) ∷ []
  counted_steps (signal a) = (number_of is_fail (acts_of p ρ l (signal a)) + count_below (track_count p) (is_turned_early a.society)) ∷ []
  counted_steps (fire a) = codes_in (acts_of p ρ l (fire a)) ++ (deviation_in (acts_of p ρ l (fire a)) ∷ [])
