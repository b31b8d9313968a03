-- Plans with window records, as bytes: a small one, any window records in its place, and a chain of tracks for the order of refusals. Assumes nothing.
use Rattle.std.specs.Prelude.{List, [], ◌∷◌, ◌++◌, ℕ, zero, suc}
use Rattle.starred.specs.SamplePlan.{bytes_of}

-- one root: from 0 to 1 on event 1 with a code, from 1 to its final state 2 on event 2 without one
abbrev pub root_records : List ℕ
root_records =
    6 ∷ 1 ∷ 65535
    ∷ 10 ∷ 2 ∷ 0 ∷ 0 ∷ 0
    ∷ 10 ∷ 2 ∷ 0 ∷ 0 ∷ 0
    ∷ 10 ∷ 2 ∷ 0 ∷ 1 ∷ 0
    ∷ []

abbrev pub root_transitions : List ℕ
root_transitions = 14 ∷ 3 ∷ 0 ∷ 1 ∷ 50 ∷ 65535 ∷ 1 ∷ 14 ∷ 3 ∷ 1 ∷ 2 ∷ 0 ∷ 65535 ∷ 2 ∷ []

abbrev pub end_record : List ℕ
end_record = 4 ∷ 4 ∷ []

-- "society, root track, rights"
abbrev pub rights_of : ℕ → ℕ → ℕ → List ℕ
rights_of society root rights = 10 ∷ 6 ∷ society ∷ root ∷ rights ∷ []

-- society 1 with every right over the first root
abbrev pub all_rights : List ℕ
all_rights = rights_of 1 0 7

-- "transition number, first day, last day", each day as its low and its high word
abbrev pub window_of : ℕ → List ℕ → List ℕ → List ℕ
window_of transition first last = 14 ∷ 5 ∷ transition ∷ [] ++ first ++ last

-- days as words: -109574, -109573, -2, 4, 5, 182620, 182621
abbrev pub before_all : List ℕ
before_all = 21498 ∷ 65534 ∷ []

abbrev pub earliest : List ℕ
earliest = 21499 ∷ 65534 ∷ []

abbrev pub minus_two : List ℕ
minus_two = 65534 ∷ 65535 ∷ []

abbrev pub four : List ℕ
four = 4 ∷ 0 ∷ []

abbrev pub five : List ℕ
five = 5 ∷ 0 ∷ []

abbrev pub latest : List ℕ
latest = 51548 ∷ 2 ∷ []

abbrev pub after_all : List ℕ
after_all = 51549 ∷ 2 ∷ []

-- the root's plan with these window records, and the one whose first transition may be taken from -2 to 5
unfoldable pub with_windows : List ℕ → List ℕ
with_windows windows = bytes_of (root_records ++ root_transitions ++ windows ++ all_rights ++ end_record)

unfoldable pub plan_d : List ℕ
plan_d = with_windows (window_of 0 minus_two five)

-- the window record out of its place: after the end, and before the transitions
unfoldable pub window_last : List ℕ
window_last = bytes_of (root_records ++ root_transitions ++ all_rights ++ end_record ++ window_of 0 minus_two five)

unfoldable pub window_early : List ℕ
window_early = bytes_of (root_records ++ window_of 0 minus_two five ++ root_transitions ++ all_rights ++ end_record)

-- so many tracks, each with one state, which hosts the next; and a window that names no transition
unfoldable pub chain_tracks : ℕ → List ℕ
chain_tracks zero = []
chain_tracks (suc zero) = 6 ∷ 1 ∷ 65535 ∷ []
chain_tracks (suc (suc t)) = chain_tracks (suc t) ++ 6 ∷ 1 ∷ t ∷ []

unfoldable pub chain_states : ℕ → List ℕ
chain_states zero = []
chain_states (suc t) = chain_states t ++ 10 ∷ 2 ∷ t ∷ 0 ∷ 0 ∷ []

unfoldable pub chained : ℕ → List ℕ
chained n = bytes_of (chain_tracks n ++ chain_states n ++ window_of 0 four five ++ all_rights ++ end_record)
