-- Numbers chained by a key: from each to the one before it with the same key. Assumes nothing.
use Rattle.std.specs.Prelude.{◌≡◌, Bool, cond, List, ℕ, zero, suc, ◌+◌, ◌*◌, ◌%◌, ◌<◌, length, get_or, eqb}
use Rattle.rules.specs.Plan.{Plan, transition}

-- one more than the last number below n that passes the test, 0 where none does
unfoldable pub last_below : ℕ → (ℕ → Bool) → ℕ
last_below zero f = 0
last_below (suc n) f = cond (f n) (suc n) (last_below n f)

unfoldable pub has : (ℕ → ℕ) → ℕ → ℕ → Bool
has key k x = eqb (key x) k

-- each number below x is chained to the last one before it with its key
unfoldable pub Chained : (ℕ → ℕ) → ℕ → List ℕ → Type 0
Chained key x next = (y : ℕ) → y < x → get_or next y 0 ≡ last_below y (has key (key y))

-- the chain of x: it starts at the last number before x with the key of x
pub record ChainOf (key : ℕ → ℕ) (x from : ℕ) (next : List ℕ) : Type 0 where
  pub start : from ≡ last_below x (has key (key x))
  pub chained : Chained key x next

-- each number below x is chained, and from each key below n to the last number below x that has it
pub record Heads (key : ℕ → ℕ) (n x : ℕ) (head next : List ℕ) : Type 0 where
  pub heads : length head ≡ n
  pub nexts : length next ≡ 256
  pub keys : (y : ℕ) → y < x → key y < n
  pub last : (k : ℕ) → k < n → get_or head k 0 ≡ last_below x (has key k)
  pub chained : Chained key x next

-- a key of transitions, given by source and event: a number below 256
unfoldable pub cell : Plan → ℕ → ℕ
cell p x = (2 * (transition p x).source + (transition p x).event) % 256
