-- A plan whose hosted track has nine moves with a code, one more than the reading rooms' 8 entries; books for it, a number that each transition
-- with a code raises, its code lowers and the replacement leaves; and property 3's claim with the conditions at another limit. Assumes nothing.
use Rattle.std.specs.Prelude.{◌≡◌, cond, ◌||◌, List, [], ◌∷◌, ℕ, suc, ◌-◌, eqb}
use Rattle.rules.specs.declared.Counts.{Counts}
use Rattle.rules.specs.declared.Terms.{Terms}
use Rattle.rules.specs.Plan.{Plan, plan_of}
use Rattle.rules.specs.Call.{done, Call, begin_outcome}
use Rattle.rules.specs.Books.{Books}
use Rattle.rules.specs.ReferenceRun.{ledger_after, AllWithdrawn}
use Rattle.starred.specs.SamplePlan.{bytes_of}
use Rattle.restoration.specs.LenientBooks.{freely}

-- The root enters the hosting state 1 on event 10 and goes to its final state 2 on event 13. The track hosted there goes from 3 to 4, from 4 to 5,
-- and so on, to its final state 12, each time on event 11. Society 1 has every right
unfoldable pub plan_n : List ℕ
plan_n =
    bytes_of
    (6 ∷ 1 ∷ 65535
    ∷ 6 ∷ 1 ∷ 1
    ∷ 10 ∷ 2 ∷ 0 ∷ 0 ∷ 0
    ∷ 10 ∷ 2 ∷ 0 ∷ 0 ∷ 90
    ∷ 10 ∷ 2 ∷ 0 ∷ 1 ∷ 0
    ∷ 10 ∷ 2 ∷ 1 ∷ 0 ∷ 0
    ∷ 10 ∷ 2 ∷ 1 ∷ 0 ∷ 0
    ∷ 10 ∷ 2 ∷ 1 ∷ 0 ∷ 0
    ∷ 10 ∷ 2 ∷ 1 ∷ 0 ∷ 0
    ∷ 10 ∷ 2 ∷ 1 ∷ 0 ∷ 0
    ∷ 10 ∷ 2 ∷ 1 ∷ 0 ∷ 0
    ∷ 10 ∷ 2 ∷ 1 ∷ 0 ∷ 0
    ∷ 10 ∷ 2 ∷ 1 ∷ 0 ∷ 0
    ∷ 10 ∷ 2 ∷ 1 ∷ 0 ∷ 0
    ∷ 10 ∷ 2 ∷ 1 ∷ 1 ∷ 0
    ∷ 14 ∷ 3 ∷ 0 ∷ 10 ∷ 50 ∷ 65535 ∷ 1
    ∷ 14 ∷ 3 ∷ 1 ∷ 13 ∷ 0 ∷ 65535 ∷ 2
    ∷ 14 ∷ 3 ∷ 3 ∷ 11 ∷ 51 ∷ 65535 ∷ 4
    ∷ 14 ∷ 3 ∷ 4 ∷ 11 ∷ 51 ∷ 65535 ∷ 5
    ∷ 14 ∷ 3 ∷ 5 ∷ 11 ∷ 51 ∷ 65535 ∷ 6
    ∷ 14 ∷ 3 ∷ 6 ∷ 11 ∷ 51 ∷ 65535 ∷ 7
    ∷ 14 ∷ 3 ∷ 7 ∷ 11 ∷ 51 ∷ 65535 ∷ 8
    ∷ 14 ∷ 3 ∷ 8 ∷ 11 ∷ 51 ∷ 65535 ∷ 9
    ∷ 14 ∷ 3 ∷ 9 ∷ 11 ∷ 51 ∷ 65535 ∷ 10
    ∷ 14 ∷ 3 ∷ 10 ∷ 11 ∷ 51 ∷ 65535 ∷ 11
    ∷ 14 ∷ 3 ∷ 11 ∷ 11 ∷ 51 ∷ 65535 ∷ 12
    ∷ 10 ∷ 6 ∷ 1 ∷ 0 ∷ 7
    ∷ 4 ∷ 4
    ∷ [])

abbrev pub counts_n : Counts
counts_n = record { tracks = 2; states = 13; transitions = 11; windows = 0; grants = 1 }

abbrev pub N : Plan
N = plan_of plan_n counts_n

-- the nine moves
abbrev pub nine : List ℕ
nine = 2 ∷ 3 ∷ 4 ∷ 5 ∷ 6 ∷ 7 ∷ 8 ∷ 9 ∷ 10 ∷ []

-- the books: of all transitions only 1 has no code
unfoldable pub counted : ℕ → ℕ → ℕ
counted x n = cond (eqb x 1) n (suc n)

unfoldable pub uncounted : ℕ → ℕ → ℕ
uncounted c n = cond (eqb c 50 || eqb c 51) (n - 1) n

-- with a begin and calls at these terms, books that meet the conditions at those stand in the end as at the begin
abbrev pub GivenBack : Terms → Terms → Type 1
GivenBack terms those =
    (k : Books N those) (lent : List ℕ) (cs : List Call) → (begin_outcome terms plan_n lent).answer ≡ done []
    → AllWithdrawn N (ledger_after terms plan_n N lent cs) → (b : k.State)
    → freely terms plan_n N k.changed k.retracted (begin_outcome terms plan_n lent).words cs b ≡ b
