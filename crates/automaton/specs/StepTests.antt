-- Steps by their rules and labels: tests, how many pass one, and what their labels tell. Assumes nothing.
use Rattle.std.specs.Prelude.{Bool, true, false, cond, List, [], ◌∷◌, ◌++◌, ℕ, ◌+◌}
use Rattle.rules.specs.Names.{Society}
use Rattle.rules.specs.Plan.{Plan, no_state}
use Rattle.rules.specs.Rights.{signal_right, is_permitted}
use Rattle.automaton.specs.Semantics.{Trace, Forw, Back, γ, τ, Act, suc_at, fail_at, comp_at, dev_at, nestsuc_at, nestfail_at, nestcomp_at, trace}

unfoldable pub is_suc : Act → Bool
is_suc (suc_at A i) = true
is_suc (fail_at A) = false
is_suc (comp_at A c) = false
is_suc (dev_at A d) = false
is_suc (nestsuc_at A) = false
is_suc (nestfail_at A) = false
is_suc (nestcomp_at A) = false

unfoldable pub is_nestsuc : Act → Bool
is_nestsuc (suc_at A i) = false
is_nestsuc (fail_at A) = false
is_nestsuc (comp_at A c) = false
is_nestsuc (dev_at A d) = false
is_nestsuc (nestsuc_at A) = true
is_nestsuc (nestfail_at A) = false
is_nestsuc (nestcomp_at A) = false

unfoldable pub is_fail : Act → Bool
is_fail (suc_at A i) = false
is_fail (fail_at A) = true
is_fail (comp_at A c) = false
is_fail (dev_at A d) = false
is_fail (nestsuc_at A) = false
is_fail (nestfail_at A) = false
is_fail (nestcomp_at A) = false

-- FAIL at an automaton that the society may turn
unfoldable pub is_fail_for : Plan → Society → Act → Bool
is_fail_for p society (suc_at A i) = false
is_fail_for p society (fail_at A) = is_permitted p signal_right society A
is_fail_for p society (comp_at A c) = false
is_fail_for p society (dev_at A d) = false
is_fail_for p society (nestsuc_at A) = false
is_fail_for p society (nestfail_at A) = false
is_fail_for p society (nestcomp_at A) = false

-- how many steps pass the test
unfoldable pub number_of : (Act → Bool) → List Act → ℕ
number_of f [] = 0
number_of f (a ∷ w) = cond (f a) 1 0 + number_of f w

-- the compensations that the labels tell
unfoldable pub code_in : Trace → List ℕ
code_in (Forw A i) = []
code_in (Back A c) = c ∷ []
code_in γ = []
code_in τ = []

unfoldable pub codes_in : List Act → List ℕ
codes_in [] = []
codes_in (a ∷ w) = code_in (trace a) ++ codes_in w

-- the state that DEV deviates to, 65535 where none does
unfoldable pub deviation_in : List Act → ℕ
deviation_in [] = no_state
deviation_in (suc_at A i ∷ w) = deviation_in w
deviation_in (fail_at A ∷ w) = deviation_in w
deviation_in (comp_at A c ∷ w) = deviation_in w
deviation_in (dev_at A d ∷ w) = d
deviation_in (nestsuc_at A ∷ w) = deviation_in w
deviation_in (nestfail_at A ∷ w) = deviation_in w
deviation_in (nestcomp_at A ∷ w) = deviation_in w

-- a step's label is τ
unfoldable pub is_mute : Trace → Bool
is_mute (Forw A i) = false
is_mute (Back A c) = false
is_mute γ = false
is_mute τ = true

unfoldable pub is_silent : Act → Bool
is_silent a = is_mute (trace a)
