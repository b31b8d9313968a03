-- Exact division of an integer by a positive number: rounded down, with a remainder from 0 to below the divisor. Assumes nothing.
use Rattle.std.specs.Prelude.{ℕ, suc, ◌-◌, ◌/◌, ◌%◌, ℤ, pos, negsuc}

-- below zero, runs of d numbers end at -1, -(d + 1), ..: -(a + 1) lies in the one that has a / d of them above it
abbrev pub times : ℤ → ℕ → ℤ
times (pos a) d = pos (a / d)
times (negsuc a) d = negsuc (a / d)

-- and is a % d places from that one's end
abbrev pub rest : ℤ → ℕ → ℕ
rest (pos a) d = a % d
rest (negsuc a) d = d - suc (a % d)
