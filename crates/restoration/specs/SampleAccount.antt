-- Books for the sample plan P: one number for each track, which the changes of that track raise and the retractions lower. Assumes nothing.
use Rattle.std.specs.Prelude.{cond, List, [], ◌∷◌, ℕ, ◌+◌, ◌-◌, get_or, eqb}
use Rattle.rules.specs.declared.Counts.{Counts}
use Rattle.rules.specs.Plan.{Plan, plan_of, mover}
use Rattle.starred.specs.SamplePlan.{plan_p}

abbrev pub counts_p : Counts
counts_p = record { tracks = 3; states = 8; transitions = 5; windows = 0; grants = 1 }

abbrev pub P : Plan
P = plan_of plan_p counts_p

-- what a transition adds to its own track's number, and what a code takes off each track's
abbrev pub adds : ℕ → ℕ
adds x = get_or (1 ∷ 0 ∷ 7 ∷ 2 ∷ 5 ∷ []) x 0

abbrev pub takes : ℕ → List ℕ
takes c =
    cond (eqb c 50) (1 ∷ []) (cond (eqb c 51) (0 ∷ 7 ∷ []) (cond (eqb c 52) (0 ∷ 0 ∷ 2 ∷ []) (cond (eqb c 54) (0 ∷ 0 ∷ 5 ∷ []) (cond (eqb c 90) (0 ∷ 7 ∷ 7 ∷ []) []))))

-- the number of track t, by a transition and by a code
unfoldable pub raised : ℕ → ℕ → ℕ → ℕ
raised t x n = n + cond (eqb (mover P x) t) (adds x) 0

unfoldable pub lowered : ℕ → ℕ → ℕ → ℕ
lowered t c n = n - get_or (takes c) t 0
