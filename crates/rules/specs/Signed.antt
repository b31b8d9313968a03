-- A signed 32-bit number as two 16-bit numbers, "low word first". Assumes nothing.
use Rattle.std.specs.Prelude.{cond, ℕ, suc, ◌+◌, ◌-◌, ◌*◌, ◌/◌, ◌%◌, ltb, ℤ, pos, negsuc, ◌-ℤ◌}

-- the number that 32 bits stand for, in two's complement: their upper half lies below zero
unfoldable pub signed_of : ℕ → ℤ
signed_of n = cond (ltb n 2147483648) (pos n) (pos n -ℤ pos 4294967296)

-- the 32 bits of a number
unfoldable pub bits_of : ℤ → ℕ
bits_of (pos n) = n
bits_of (negsuc n) = 4294967296 - suc n

-- the number of a low and a high word, and the two of a number
unfoldable pub joined : ℕ → ℕ → ℤ
joined low high = signed_of (low + 65536 * high)

unfoldable pub low_word : ℤ → ℕ
low_word z = bits_of z % 65536

unfoldable pub high_word : ℤ → ℕ
high_word z = bits_of z / 65536
