-- "Each track", "some state", "how many": tests, counts and searches over the numbers below n. Assumes nothing.
use Rattle.std.specs.Prelude.{Bool, true, false, cond, ◌&&◌, ◌||◌, List, [], ◌∷◌, ℕ, zero, suc, ◌+◌, max}
use Rattle.std.proofs.Math.Option.{Option, none, some}
use Rattle.rules.specs.Names.{Refusal}

-- some number below n passes the test
unfoldable pub some_below : ℕ → (ℕ → Bool) → Bool
some_below zero f = false
some_below (suc n) f = some_below n f || f n

-- every number below n passes the test
unfoldable pub every_below : ℕ → (ℕ → Bool) → Bool
every_below zero f = true
every_below (suc n) f = every_below n f && f n

-- how many numbers below n pass the test
unfoldable pub count_below : ℕ → (ℕ → Bool) → ℕ
count_below zero f = 0
count_below (suc n) f = count_below n f + cond (f n) 1 0

-- the sum of f over the numbers below n
unfoldable pub sum_below : ℕ → (ℕ → ℕ) → ℕ
sum_below zero f = 0
sum_below (suc n) f = sum_below n f + f n

-- the greatest value of f below n, 0 where n is 0
unfoldable pub greatest_below : ℕ → (ℕ → ℕ) → ℕ
greatest_below zero f = 0
greatest_below (suc n) f = max (greatest_below n f) (f n)

-- the lowest number below n that passes the test
unfoldable pub first_below : ℕ → (ℕ → Bool) → Option ℕ
first_below zero f = none
first_below (suc n) f = elim (first_below n f) [ none ↦ cond (f n) (some n) none | some i ↦ some i ]

-- f 0, .., f (n - 1)
unfoldable pub tabulate_from : {A : Type 0} → ℕ → ℕ → (ℕ → A) → List A
tabulate_from zero i f = []
tabulate_from (suc n) i f = f i ∷ tabulate_from n (suc i) f

unfoldable pub tabulate : {A : Type 0} → ℕ → (ℕ → A) → List A
tabulate n f = tabulate_from n 0 f

-- the first number of a table whose test holds, 0 where none does
unfoldable pub first_refusal : List (Refusal × Bool) → Refusal
first_refusal [] = 0
first_refusal (t ∷ ts) = cond t.1 t.0 (first_refusal ts)
