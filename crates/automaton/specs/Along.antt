-- The steps and the big steps along a list of calls, from a begin on. Assumes nothing.
use Rattle.std.specs.Prelude.{◌≡◌, ◌⊎◌, true, List, [], ◌∷◌, ◌++◌, ℕ}
use Rattle.rules.specs.Plan.{Plan, track_count}
use Rattle.rules.specs.Ledger.{Ledger, ledger_at}
use Rattle.rules.specs.Call.{Answer, refusal, done, Call, call_outcome, begin_outcome}
use Rattle.automaton.specs.Configuration.{Conf, Vect, has_terminated}
use Rattle.automaton.specs.Semantics.{FailReading, Act, Run}
use Rattle.automaton.specs.View.{view, acts_of}
use Rattle.automaton.specs.BigSteps.{Ends}
use Rattle.rules.specs.declared.Terms.{Terms}

-- a refused call takes no step
unfoldable pub made : Answer → List Act → List Act
made (refusal n) w = []
made (done figures) w = w

module _ (terms : Terms) (bs : List ℕ) (p : Plan) (ρ : FailReading) where
  unfoldable pub acts_from : List ℕ → List Call → List Act
  acts_from ws [] = []
  acts_from ws (c ∷ cs) =
      made (call_outcome terms bs ws c).answer (acts_of p ρ (ledger_at terms ws (track_count p)) c) ++ acts_from (call_outcome terms bs ws c).words cs

  unfoldable pub acts_after : List ℕ → List Call → List Act
  acts_after lent cs = acts_from (begin_outcome terms bs lent).words cs

-- the big step of a call that was answered so: a refused one takes none
unfoldable pub Answered : Plan → FailReading → Answer → Call → Conf → Conf → Type 0
Answered p ρ (refusal n) call c d = d ≡ c
Answered p ρ (done figures) call c d = Ends p ρ call c d

-- the big steps along a list of calls
unfoldable pub EndsFrom : Terms → List ℕ → Plan → FailReading → List ℕ → List Call → Conf → Conf → Type 0
EndsFrom terms bs p ρ ws [] c d = d ≡ c
EndsFrom terms bs p ρ ws (call ∷ cs) c d =
    (e : Conf) × Answered p ρ (call_outcome terms bs ws call).answer call c e × EndsFrom terms bs p ρ (call_outcome terms bs ws call).words cs e d

-- a run to what the ledger shows, or to a vector that has terminated, of which nothing is shown
pub record Played (p : Plan) (ρ : FailReading) (start : Conf) (acts : List Act) (l : Ledger) : Type 0 where
  pub reached : Conf
  pub run : Run p ρ start acts reached
  pub shown : (view p ρ l ≡ reached) ⊎ ((has_terminated p reached ≡ true) × (view p ρ l ≡ Vect []))
