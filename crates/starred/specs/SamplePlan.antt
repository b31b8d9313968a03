-- The paper's sample plan P and its journal, as bytes, plans much like it, and a ledger to lend. Assumes nothing.
use Rattle.std.specs.Prelude.{List, [], ◌∷◌, ℕ, ◌+◌, ◌/◌, ◌%◌, replicate}
use Rattle.rules.specs.declared.Terms.{Terms}
use Rattle.rules.specs.Setting.{main_terms}
use Rattle.rules.specs.Layout.{word_count}

-- the bytes of 16-bit little-endian numbers
unfoldable pub bytes_of : List ℕ → List ℕ
bytes_of [] = []
bytes_of (w ∷ ws) = w % 256 ∷ w / 256 ∷ bytes_of ws

-- P with these codes for its first and its third transition; its rights record is "for society 1, track 0, sum 7"
unfoldable pub plan_of_codes : ℕ → ℕ → List ℕ
plan_of_codes first third =
    bytes_of
    (6 ∷ 1 ∷ 65535
    ∷ 6 ∷ 1 ∷ 1
    ∷ 6 ∷ 1 ∷ 1
    ∷ 10 ∷ 2 ∷ 0 ∷ 0 ∷ 0
    ∷ 10 ∷ 2 ∷ 0 ∷ 0 ∷ 90
    ∷ 10 ∷ 2 ∷ 0 ∷ 1 ∷ 0
    ∷ 10 ∷ 2 ∷ 1 ∷ 0 ∷ 0
    ∷ 10 ∷ 2 ∷ 1 ∷ 1 ∷ 0
    ∷ 10 ∷ 2 ∷ 2 ∷ 0 ∷ 0
    ∷ 10 ∷ 2 ∷ 2 ∷ 0 ∷ 0
    ∷ 10 ∷ 2 ∷ 2 ∷ 1 ∷ 0
    ∷ 14 ∷ 3 ∷ 0 ∷ 10 ∷ first ∷ 65535 ∷ 1
    ∷ 14 ∷ 3 ∷ 1 ∷ 13 ∷ 0 ∷ 65535 ∷ 2
    ∷ 14 ∷ 3 ∷ 3 ∷ 11 ∷ third ∷ 65535 ∷ 4
    ∷ 14 ∷ 3 ∷ 5 ∷ 12 ∷ 52 ∷ 65535 ∷ 6
    ∷ 14 ∷ 3 ∷ 6 ∷ 14 ∷ 54 ∷ 65535 ∷ 7
    ∷ 10 ∷ 6 ∷ 1 ∷ 0 ∷ 7
    ∷ 4 ∷ 4
    ∷ [])

unfoldable pub plan_p : List ℕ
plan_p = plan_of_codes 50 51

-- a neighbour's plan: one code is another. And a plan alike in both leading words: two codes are exchanged
unfoldable pub neighbour_p : List ℕ
neighbour_p = plan_of_codes 50 61

unfoldable pub alike_p : List ℕ
alike_p = plan_of_codes 51 50

-- Two roots. The first goes from 0 to 1 on event 1, with a deviation back to 0, and from 0 to its final state 2 on event 2. The second enters the
-- hosting state 4, on event 1 without a code, on event 5 with one; the track hosted there goes from 6 to 7 on event 3. Society 1 has
-- every right
unfoldable pub two_roots : List ℕ
two_roots =
    bytes_of
    (6 ∷ 1 ∷ 65535
    ∷ 6 ∷ 1 ∷ 65535
    ∷ 6 ∷ 1 ∷ 4
    ∷ 10 ∷ 2 ∷ 0 ∷ 0 ∷ 0
    ∷ 10 ∷ 2 ∷ 0 ∷ 0 ∷ 0
    ∷ 10 ∷ 2 ∷ 0 ∷ 1 ∷ 0
    ∷ 10 ∷ 2 ∷ 1 ∷ 0 ∷ 0
    ∷ 10 ∷ 2 ∷ 1 ∷ 0 ∷ 90
    ∷ 10 ∷ 2 ∷ 1 ∷ 1 ∷ 0
    ∷ 10 ∷ 2 ∷ 2 ∷ 0 ∷ 0
    ∷ 10 ∷ 2 ∷ 2 ∷ 0 ∷ 0
    ∷ 10 ∷ 2 ∷ 2 ∷ 1 ∷ 0
    ∷ 14 ∷ 3 ∷ 0 ∷ 1 ∷ 41 ∷ 0 ∷ 1
    ∷ 14 ∷ 3 ∷ 0 ∷ 2 ∷ 42 ∷ 65535 ∷ 2
    ∷ 14 ∷ 3 ∷ 3 ∷ 1 ∷ 0 ∷ 65535 ∷ 4
    ∷ 14 ∷ 3 ∷ 3 ∷ 5 ∷ 51 ∷ 65535 ∷ 4
    ∷ 14 ∷ 3 ∷ 4 ∷ 4 ∷ 0 ∷ 65535 ∷ 5
    ∷ 14 ∷ 3 ∷ 6 ∷ 3 ∷ 61 ∷ 65535 ∷ 7
    ∷ 14 ∷ 3 ∷ 7 ∷ 6 ∷ 62 ∷ 65535 ∷ 8
    ∷ 10 ∷ 6 ∷ 1 ∷ 0 ∷ 7
    ∷ 10 ∷ 6 ∷ 1 ∷ 1 ∷ 7
    ∷ 4 ∷ 4
    ∷ [])

-- "events 10, 11, 12, signal, four times kind 19", each event on day 0, each record of society 1
unfoldable pub journal_p : List ℕ
journal_p =
    bytes_of
    (12 ∷ 20 ∷ 10 ∷ 0 ∷ 0 ∷ 1 ∷ 12 ∷ 20 ∷ 11 ∷ 0 ∷ 0 ∷ 1 ∷ 12 ∷ 20 ∷ 12 ∷ 0 ∷ 0 ∷ 1
    ∷ 6 ∷ 17 ∷ 1
    ∷ 6 ∷ 19 ∷ 1 ∷ 6 ∷ 19 ∷ 1 ∷ 6 ∷ 19 ∷ 1 ∷ 6 ∷ 19 ∷ 1
    ∷ [])

-- a lent ledger with two words more than so many tracks need, whatever it held
unfoldable pub lent_at : Terms → ℕ → List ℕ
lent_at terms tracks = replicate (word_count terms tracks + 2) 7

unfoldable pub lent_for : ℕ → List ℕ
lent_for tracks = lent_at main_terms tracks

-- one root that takes the same step, event 1 with code 5, as often as it is asked to
unfoldable pub plan_loop : List ℕ
plan_loop =
    bytes_of
    (6 ∷ 1 ∷ 65535
    ∷ 10 ∷ 2 ∷ 0 ∷ 0 ∷ 0
    ∷ 14 ∷ 3 ∷ 0 ∷ 1 ∷ 5 ∷ 65535 ∷ 0
    ∷ 10 ∷ 6 ∷ 1 ∷ 0 ∷ 7
    ∷ 4 ∷ 4
    ∷ [])
