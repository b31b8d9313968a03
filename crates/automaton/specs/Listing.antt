-- Sequences in track order. Assumes nothing.
use Rattle.std.specs.Prelude.{Bool, true, false, cond, ◌&&◌, ◌||◌, List, [], ◌∷◌, ℕ, zero, suc}

-- g of each of the n numbers from i on that passes the test, in rising order
unfoldable pub listed_from : {A : Type 0} → ℕ → ℕ → (ℕ → Bool) → (ℕ → A) → List A
listed_from zero i f g = []
listed_from (suc n) i f g = cond (f i) (g i ∷ listed_from n (suc i) f g) (listed_from n (suc i) f g)

-- of each number below n
unfoldable pub listed : {A : Type 0} → ℕ → (ℕ → Bool) → (ℕ → A) → List A
listed n f g = listed_from n 0 f g

-- the same in falling order
unfoldable pub listed_down : {A : Type 0} → ℕ → (ℕ → Bool) → (ℕ → A) → List A
listed_down zero f g = []
listed_down (suc n) f g = cond (f n) (g n ∷ listed_down n f g) (listed_down n f g)

-- some member, every member of a sequence passes the test
unfoldable pub some_of : {A : Type 0} → (A → Bool) → List A → Bool
some_of f [] = false
some_of f (a ∷ rest) = f a || some_of f rest

unfoldable pub every_of : {A : Type 0} → (A → Bool) → List A → Bool
every_of f [] = true
every_of f (a ∷ rest) = f a && every_of f rest
