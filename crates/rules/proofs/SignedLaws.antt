-- A signed 32-bit number and its two words: each is read back from the other, since two's complement is one to one between the numbers from
-- -2147483648 to 2147483647 and those below 4294967296; and each day is such a number. Assumes nothing.
use mathlib.Core.Path.{◌≡◌, ap, ◌∙◌}
use mathlib.Core.Bool.{true}
use Prim.Native.Nat.{ℕ, suc, ◌+◌, ◌-◌, ◌*◌, ◌/◌, ◌%◌, ◌<◌, ◌≤◌}
use native.Mathlib.Omega.{arith}
use native.Mathlib.Decide.{dec_lt}
use lib.Dec.{leb}
use lib.IntN.{ℤ, pos, negsuc}
use borrow.Author.Tests.{lt-ltb, le-ltb, leb-true}
use mir.Syntax.{w32}
use mir.Val.{SFits}
use Rattle.rules.specs.Names.{Day}
use Rattle.rules.specs.Day.{is_day}
use Rattle.rules.specs.Signed.{signed_of, bits_of, joined, low_word, high_word}
use Rattle.rules.proofs.Tests.{and_holds}

-- the number of 32 bits, by the highest of them
pub signed_low : (n : ℕ) → n < 2147483648 → signed_of n ≡ pos n
unfolding signed_of
signed_low n h = rw (lt-ltb n 2147483648 h)

pub signed_high : (n : ℕ) → 2147483648 ≤ n → n < 4294967296 → signed_of n ≡ negsuc (4294967295 - n)
unfolding signed_of
signed_high n h k =
    rw (le-ltb n 2147483648 h, lt-ltb n 4294967296 k) (ap negsuc (let e : 4294967296 - suc n ≡ 4294967295 - n = omega arith in e))

-- of a number, its bits and back
bits_small : (z : ℤ) → SFits w32 z → bits_of z < 4294967296
unfolding bits_of
bits_small (pos n) f = omega (arith, f.sfits)
bits_small (negsuc n) f = omega arith

pub signed_bits : (z : ℤ) → SFits w32 z → signed_of (bits_of z) ≡ z
unfolding bits_of
signed_bits (pos n) f = signed_low n (omega (arith, f.sfits))
signed_bits (negsuc n) f =
    signed_high (4294967296 - suc n) (omega (arith, f.sfits)) (omega arith)
    ∙ ap negsuc (let e : 4294967295 - (4294967296 - suc n) ≡ n = omega (arith, f.sfits) in e)

-- of bits, their number and back
bits_signed : (n : ℕ) → n < 4294967296 → bits_of (signed_of n) ≡ n
unfolding bits_of
bits_signed n h = elim (dec_lt n 2147483648) [
  | yes p ↦ rw (signed_low n p)
  | no q ↦ rw (signed_high n (omega arith) h) (omega arith)
]

signed_fits : (n : ℕ) → n < 4294967296 → SFits w32 (signed_of n)
signed_fits n h = elim (dec_lt n 2147483648) [
  | yes p ↦ rw (signed_low n p) (record { sfits = omega arith })
  | no q ↦ rw (signed_high n (omega arith) h) (record { sfits = omega arith })
]

-- a number is read back from its words, which have 16 bits each
module _ (z : ℤ) where
  pub low_small : low_word z < 65536
  unfolding low_word
  low_small = omega arith

  pub high_small : SFits w32 z → high_word z < 65536
  unfolding high_word
  high_small f = omega (arith, bits_small z f)

  pub joined_words : SFits w32 z → joined (low_word z) (high_word z) ≡ z
  unfolding joined low_word high_word
  joined_words f = ap signed_of (let e : bits_of z % 65536 + 65536 * (bits_of z / 65536) ≡ bits_of z = omega arith in e) ∙ signed_bits z f

-- two words are read back from their number
module _ (a b : ℕ) (h : a < 65536) (k : b < 65536) where
  pub low_joined : low_word (joined a b) ≡ a
  unfolding joined low_word
  low_joined = rw (bits_signed (a + 65536 * b) (omega arith)) (omega arith)

  pub high_joined : high_word (joined a b) ≡ b
  unfolding joined high_word
  high_joined = rw (bits_signed (a + 65536 * b) (omega arith)) (omega arith)

  pub joined_fits : SFits w32 (joined a b)
  unfolding joined
  joined_fits = signed_fits (a + 65536 * b) (omega arith)

-- a day is a number of 32 bits
pub day_fits : (z : Day) → is_day z ≡ true → SFits w32 z
unfolding is_day
day_fits (pos a) e = let h = leb-true a 182620 e in record { sfits = omega arith }
day_fits (negsuc a) e = let h = leb-true a 109572 (and_holds (leb a 109572) true e).0 in record { sfits = omega arith }

module _ (z : Day) (e : is_day z ≡ true) where
  pub day_high_small : high_word z < 65536
  day_high_small = high_small z (day_fits z e)

  pub joined_day_words : joined (low_word z) (high_word z) ≡ z
  joined_day_words = joined_words z (day_fits z e)
