-- The cells of a chain. Assumes nothing.
use Rattle.std.specs.Prelude.{ℕ, zero, suc, Option, Some, None}

-- an item is told by one more than its number, and 0 is the end
abbrev pub item_of : ℕ → Option ℕ
item_of zero = None
item_of (suc k) = Some k

abbrev pub cell_of : Option ℕ → ℕ
cell_of None = zero
cell_of (Some k) = suc k
