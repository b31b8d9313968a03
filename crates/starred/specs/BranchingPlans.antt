-- A plan with two roots and two hosted tracks, as bytes, with a deviation of one's choice, and a ledger's words for it. Assumes nothing.
use Rattle.std.specs.Prelude.{List, [], ◌∷◌, ◌++◌, ℕ, replicate}
use Rattle.starred.specs.SamplePlan.{bytes_of}
use Rattle.starred.specs.WindowPlans.{end_record, rights_of}

-- The first root goes from 0 to 1 on event 1, and to its final state 2 on event 2, with this deviation. The second enters the hosting state 4 on event 1.
-- Of the tracks hosted there one goes to its final state 7 on event 5, and the other stays in 8 on event 6. Each of these has a code. Society 1 has every
-- right over the first root, 2 over the second, 3 over both
abbrev pub branching : ℕ → List ℕ
branching deviation =
    bytes_of
    ((6 ∷ 1 ∷ 65535
    ∷ 6 ∷ 1 ∷ 65535
    ∷ 6 ∷ 1 ∷ 4
    ∷ 6 ∷ 1 ∷ 4
    ∷ 10 ∷ 2 ∷ 0 ∷ 0 ∷ 0
    ∷ 10 ∷ 2 ∷ 0 ∷ 0 ∷ 0
    ∷ 10 ∷ 2 ∷ 0 ∷ 1 ∷ 0
    ∷ 10 ∷ 2 ∷ 1 ∷ 0 ∷ 0
    ∷ 10 ∷ 2 ∷ 1 ∷ 0 ∷ 80
    ∷ 10 ∷ 2 ∷ 1 ∷ 1 ∷ 0
    ∷ 10 ∷ 2 ∷ 2 ∷ 0 ∷ 0
    ∷ 10 ∷ 2 ∷ 2 ∷ 1 ∷ 0
    ∷ 10 ∷ 2 ∷ 3 ∷ 0 ∷ 0
    ∷ 10 ∷ 2 ∷ 3 ∷ 1 ∷ 0
    ∷ 14 ∷ 3 ∷ 0 ∷ 1 ∷ 50 ∷ 65535 ∷ 1
    ∷ 14 ∷ 3 ∷ 1 ∷ 2 ∷ 51 ∷ deviation ∷ 2
    ∷ 14 ∷ 3 ∷ 3 ∷ 1 ∷ 60 ∷ 65535 ∷ 4
    ∷ 14 ∷ 3 ∷ 4 ∷ 4 ∷ 0 ∷ 65535 ∷ 5
    ∷ 14 ∷ 3 ∷ 6 ∷ 5 ∷ 70 ∷ 65535 ∷ 7
    ∷ 14 ∷ 3 ∷ 8 ∷ 6 ∷ 90 ∷ 65535 ∷ 8
    ∷ 14 ∷ 3 ∷ 8 ∷ 7 ∷ 0 ∷ 65535 ∷ 9
    ∷ [])
    ++ rights_of 1 0 7 ++ rights_of 2 1 7 ++ rights_of 3 0 7 ++ rights_of 3 1 7 ++ end_record)

-- without a deviation, and with one back to the first root's state 0
unfoldable pub plan_b : List ℕ
plan_b = branching 65535

unfoldable pub deviating_b : List ℕ
deviating_b = branching 0

-- a track's words: mode, state, how many entries, these, and the unused ones
unfoldable pub track_words : ℕ → ℕ → ℕ → List ℕ → ℕ → List ℕ
track_words mode state count pairs unused = mode ∷ state ∷ count ∷ pairs ++ replicate unused 0
