-- The numbers from a place on, one, two or three of them taken off; and the sum as the loop makes it, of what is added so far and what is ahead in
-- the four quarters. Keeping the former modulo 2 ^ 64 changes nothing, since 65,536 divides that. Assumes nothing.
use Rattle.std.proofs.Common.{◌≡◌, ℕ, suc, ◌+◌, ◌*◌, ◌%◌, ◌^◌, ◌<◌, ◌≤◌, List, length, get_or, drop, ap, subst, add-one, arith, drop-cons}
use Rattle.std.proofs.Math.Numerals.{add-two}
use Rattle.std.proofs.Math.Seq.{drop-length}
use Rattle.rules.specs.Record.{word}
use Rattle.rules.specs.Leading.{numbers_total, plan_sum}

-- what is left of an equation once a part of both sides is taken off
left_over : (sum a b t u : ℕ) → (sum + a) % 65536 ≡ b % 65536 → a + t ≡ b + u → (sum + u) % 65536 ≡ t % 65536
left_over sum a b t u e f = omega arith

module _ (bs : List ℕ) where
  -- the numbers from a place to the end, added up
  abbrev total : ℕ → ℕ
  total at = numbers_total (drop at bs)

  -- the same, the place written otherwise
  same : (at at' : ℕ) → at ≡ at' → total at ≡ total at'
  same at at' e = ap total e

  module _ (at : ℕ) where
    -- a byte by itself, and no byte
    pub total_last : at < length bs → length bs < at + 2 → total at ≡ get_or bs at 0
    unfolding numbers_total
    total_last h k = let e : suc at ≡ length bs = omega arith in rw (drop-cons bs at 0 (omega arith), e, drop-length bs)

    pub total_none : at ≤ length bs → length bs ≤ at → total at ≡ 0
    unfolding numbers_total
    total_none h k = let e : at ≡ length bs = omega arith in rw (e, drop-length bs)

    -- a number and those after it
    pub total_more : at + 2 ≤ length bs → total at ≡ word bs at + total (at + 2)
    unfolding numbers_total word
    total_more h = rw (add-two, add-one, drop-cons bs at 0 (omega arith), drop-cons bs (suc at) 0 (omega arith))

  module _ (at : ℕ) where
    -- two numbers, and three
    pub total_two : at + 4 ≤ length bs → total at ≡ word bs at + word bs (at + 2) + total (at + 4)
    total_two h = omega (arith, total_more at (omega arith), total_more (at + 2) (omega arith), same (at + 2 + 2) (at + 4) (omega arith))

    pub total_three : at + 6 ≤ length bs → total at ≡ word bs at + word bs (at + 2) + word bs (at + 4) + total (at + 6)
    total_three h = omega (arith, total_two (omega arith), total_more (at + 4) (omega arith), same (at + 4 + 2) (at + 6) (omega arith))

  module _ (quarter : ℕ) where
    -- the numbers of a round, and all from its places to the end
    abbrev of_round : ℕ → ℕ
    of_round at = word bs at + word bs (quarter + at) + word bs (2 * quarter + at) + word bs (3 * quarter + at)

    unfoldable pub ahead : ℕ → ℕ
    ahead at = total at + total (quarter + at) + total (2 * quarter + at) + total (3 * quarter + at)

    round_more : (at : ℕ) → at + 2 ≤ quarter → 4 * quarter ≤ length bs → ahead at ≡ of_round at + ahead (at + 2)
    unfolding ahead
    round_more at h k =
        omega (
          arith,
          total_more at (omega arith),
          total_more (quarter + at) (omega arith),
          total_more (2 * quarter + at) (omega arith),
          total_more (3 * quarter + at) (omega arith),
          same (quarter + at + 2) (quarter + (at + 2)) (omega arith),
          same (2 * quarter + at + 2) (2 * quarter + (at + 2)) (omega arith),
          same (3 * quarter + at + 2) (3 * quarter + (at + 2)) (omega arith),
        )

    -- at the end of each quarter the next one starts, so all but the first start and the last end are on both sides
    rounds_done : ahead quarter + total 0 ≡ ahead 0 + total (4 * quarter)
    unfolding ahead
    rounds_done =
        omega (
          arith,
          same (quarter + 0) quarter (omega arith),
          same (quarter + quarter) (2 * quarter + 0) (omega arith),
          same (2 * quarter + quarter) (3 * quarter + 0) (omega arith),
          same (3 * quarter + quarter) (4 * quarter) (omega arith),
        )

    -- what is added so far, with what is ahead, is what was ahead at first
    unfoldable pub Adding : ℕ → ℕ → Type 0
    Adding sum at = (sum + ahead at) % 65536 ≡ ahead 0 % 65536

    pub adds_none : Adding 0 0
    unfolding Adding
    adds_none = omega arith

    -- a round is added, what comes out kept modulo 2 ^ 64
    pub adds_round : (sum at : ℕ) {n r : ℕ} → r ≡ (sum + n) % 2 ^ 64 → n ≡ of_round at → at + 2 ≤ quarter → 4 * quarter ≤ length bs
        → Adding sum at → Adding r (at + 2)
    unfolding Adding
    adds_round sum at e f h k a = omega (arith, e, f, round_more at h k, a)

    -- all rounds are added, and the numbers left make up the sum
    pub adds_last : (sum at : ℕ) → at ≡ quarter → Adding sum at → (sum + total (4 * quarter)) % 65536 ≡ plan_sum bs
    unfolding Adding plan_sum
    adds_last sum at q a =
        let done : (sum + ahead quarter) % 65536 ≡ ahead 0 % 65536 = subst (λ (x : ℕ). (sum + ahead x) % 65536 ≡ ahead 0 % 65536) q a in
        left_over sum _ _ _ _ done rounds_done
