-- The largest numbers of entries on plan P, and runs that meet them: track 0 once its scope has closed, tracks 1 and 2 just before. Each is proved by
-- computing the definitions of the rules. Assumes nothing.
use mathlib.Core.Path.{◌≡◌, refl}
use mathlib.Core.List.{List, [], ◌∷◌}
use Prim.Native.Nat.{ℕ}
use lib.IntN.{pos}
use lib.ListN.{length}
use Rattle.rules.specs.declared.Counts.{Counts}
use Rattle.rules.specs.Plan.{Plan, plan_of}
use Rattle.rules.specs.Acceptance.{accepted}
use Rattle.rules.specs.Setting.{main_terms}
use Rattle.rules.specs.Call.{Call, event}
use Rattle.rules.specs.ReferenceRun.{ledger_after}
use Rattle.rules.specs.Largest.{of_transition, of_state, leaves, most_within, largest, has_deviation, goes_on, has_cycle, is_unbounded, read_bounded}
use Rattle.starred.specs.SamplePlan.{plan_p, lent_for}
use Rattle.starred.specs.Computing.{computing}

abbrev counts_p : Counts
counts_p = record { tracks = 3; states = 8; transitions = 5; windows = 0; grants = 1 }

abbrev p : Plan
p = plan_of plan_p counts_p

abbrev e : ℕ → Call
e n = event (record { event = n; day = pos 0; society = 1 })

-- how many entries a track holds after a list of calls
abbrev held : List Call → ℕ → ℕ
held cs t = length (ledger_after main_terms plan_p p (lent_for 3) cs t).held

-- P has no deviation and no cycle
pub bounded-P : read_bounded plan_p ≡ accepted counts_p
unfolding computing leaves has_deviation goes_on has_cycle is_unbounded read_bounded
bounded-P = refl

pub largest-P : (largest p 0 ≡ 2) × (largest p 1 ≡ 1) × (largest p 2 ≡ 2)
unfolding computing of_transition of_state leaves most_within largest
largest-P = (refl, refl, refl)

pub met-P : (held (e 10 ∷ e 11 ∷ e 12 ∷ e 14 ∷ []) 0 ≡ 2) × (held (e 10 ∷ e 11 ∷ []) 1 ≡ 1) × (held (e 10 ∷ e 12 ∷ e 14 ∷ []) 2 ≡ 2)
unfolding computing
met-P = (refl, refl, refl)
