-- What is claimed of an accepted call: "exactly as a compensating automaton of report CS2012-01 does, narrowed by document 01".
-- Assumes nothing.
use Rattle.std.specs.Prelude.{◌≡◌, ◌↔◌, List, [], ◌∷◌, ℕ, ◌+◌, length}
use Rattle.rules.specs.Fold.{count_below}
use Rattle.rules.specs.Plan.{Plan, track_count}
use Rattle.rules.specs.Ledger.{Ledger}
use Rattle.rules.specs.Call.{Call, event, signal, fire, figures, after}
use Rattle.automaton.specs.Configuration.{Conf}
use Rattle.automaton.specs.Semantics.{FailReading, Run, Settled}
use Rattle.automaton.specs.View.{view, acts_of}
use Rattle.automaton.specs.CountedSteps.{is_turned_early, counted_steps}
use Rattle.automaton.specs.StepTests.{is_nestsuc, is_fail, number_of, deviation_in}
use Rattle.automaton.specs.BigSteps.{after_finish, acts_in, Big, Ends}
use Rattle.rules.specs.declared.Terms.{Terms}

-- the figures as a big step tells them: how many automata moved, how often NESTSUC; how often FAIL, and how many hosts turn early; what COMP
-- and DEV tell
unfoldable pub told_by : (p : Plan) (ρ : FailReading) (l : Ledger) (call : Call) (c d : Conf) → Big p ρ call c d → List ℕ
unfolding Big
told_by p ρ l (event a) c d x = length x.order ∷ number_of is_nestsuc (acts_in p ρ x.settling.0) ∷ []
told_by p ρ l (signal a) c d x = (number_of is_fail (acts_in p ρ x.turning.0) + count_below (track_count p) (is_turned_early p ρ l a.society)) ∷ []
told_by p ρ l (fire a) c d x = x.0 ∷ deviation_in (acts_in p ρ x.1.settling.0) ∷ []

module _ (p : Plan) (ρ : FailReading) (terms : Terms) (l : Ledger) (c : Call) where
  -- one way: its steps, one after the other
  pub record Stepwise : Type 0 where
    -- the configuration that they lead to
    pub reached : Conf
    pub run : Run p ρ (view p ρ l) (acts_of p ρ l c) reached
    -- no silent rule applies afterwards
    pub settled : Settled p ρ reached
    pub left : view p ρ (after p l c) ≡ after_finish p reached
    pub told : figures p l c ≡ counted_steps p ρ l c

  -- and both ways: the automaton's big steps, which speak of no ledger, end in the view afterwards and nowhere else
  pub record Exactly : Type 0 where
    pub steps : Stepwise
    pub ends : (d : Conf) → Ends p ρ c (view p ρ l) d ↔ (d ≡ view p ρ (after p l c))
    -- and each tells the call's figures
    pub tells : (d : Conf) (x : Big p ρ c (view p ρ l) d) → figures p l c ≡ told_by p ρ l c (view p ρ l) d x
