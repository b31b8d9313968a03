-- Plans with rights records, as bytes: two roots, any rights records in their place, and so many of them. Assumes nothing.
use Rattle.std.specs.Prelude.{List, [], ◌∷◌, ◌++◌, ℕ, zero, suc}
use Rattle.starred.specs.SamplePlan.{bytes_of}
use Rattle.starred.specs.WindowPlans.{end_record, rights_of, window_of, five, four}

-- Two roots. The first goes from 0 to 1 on event 1 and to its final state 2 on event 2, and stays in 0 on event 7. The second enters the hosting
-- state 4 on event 1, and goes to its final state 5 on event 2; the track hosted there goes from 6 to its final state 7 on event 3
abbrev pub branch_records : List ℕ
branch_records =
    6 ∷ 1 ∷ 65535
    ∷ 6 ∷ 1 ∷ 65535
    ∷ 6 ∷ 1 ∷ 4
    ∷ 10 ∷ 2 ∷ 0 ∷ 0 ∷ 0
    ∷ 10 ∷ 2 ∷ 0 ∷ 0 ∷ 0
    ∷ 10 ∷ 2 ∷ 0 ∷ 1 ∷ 0
    ∷ 10 ∷ 2 ∷ 1 ∷ 0 ∷ 0
    ∷ 10 ∷ 2 ∷ 1 ∷ 0 ∷ 90
    ∷ 10 ∷ 2 ∷ 1 ∷ 1 ∷ 0
    ∷ 10 ∷ 2 ∷ 2 ∷ 0 ∷ 0
    ∷ 10 ∷ 2 ∷ 2 ∷ 1 ∷ 0
    ∷ 14 ∷ 3 ∷ 0 ∷ 1 ∷ 41 ∷ 65535 ∷ 1
    ∷ 14 ∷ 3 ∷ 1 ∷ 2 ∷ 0 ∷ 65535 ∷ 2
    ∷ 14 ∷ 3 ∷ 0 ∷ 7 ∷ 47 ∷ 65535 ∷ 0
    ∷ 14 ∷ 3 ∷ 3 ∷ 1 ∷ 51 ∷ 65535 ∷ 4
    ∷ 14 ∷ 3 ∷ 4 ∷ 2 ∷ 0 ∷ 65535 ∷ 5
    ∷ 14 ∷ 3 ∷ 6 ∷ 3 ∷ 61 ∷ 65535 ∷ 7
    ∷ []

-- that plan with these records before the end
unfoldable pub with_rights : List ℕ → List ℕ
with_rights rights = bytes_of (branch_records ++ rights ++ end_record)

-- societies 1 and 2 with every right over one root each; and 3 that may move both roots, 4 that may signal the second, 5 that may fire the first
unfoldable pub plan_r : List ℕ
plan_r = with_rights (rights_of 1 0 7 ++ rights_of 2 1 7 ++ rights_of 3 0 1 ++ rights_of 3 1 1 ++ rights_of 4 1 2 ++ rights_of 5 0 4)

-- a society to each root; and both over the first
unfoldable pub plan_own : List ℕ
plan_own = with_rights (rights_of 1 0 7 ++ rights_of 2 1 7)

unfoldable pub plan_shared : List ℕ
plan_shared = with_rights (rights_of 1 0 7 ++ rights_of 2 0 7)

-- the first n societies, each with every right over the first root
unfoldable pub many_rights : ℕ → List ℕ
many_rights zero = []
many_rights (suc n) = many_rights n ++ rights_of n 0 7

-- the words of so many entries with one code and no deviation
unfoldable pub entries_of : ℕ → ℕ → List ℕ
entries_of code zero = []
entries_of code (suc n) = code ∷ 65535 ∷ entries_of code n

-- rights records out of their place: before a window, and after the end
unfoldable pub rights_early : List ℕ
rights_early = with_rights (rights_of 1 0 7 ++ window_of 0 four five)

unfoldable pub rights_last : List ℕ
rights_last = bytes_of (branch_records ++ end_record ++ rights_of 1 0 7)
