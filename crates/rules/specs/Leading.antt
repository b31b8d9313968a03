-- The leading words of a ledger: the length of its plan and the sum of the plan's bytes, by which the two are kept together, and the last
-- accepted day. Assumes nothing.
use Rattle.std.specs.Prelude.{Bool, not, ◌||◌, [], ◌∷◌, ◌++◌, ℕ, ◌+◌, ◌*◌, ◌%◌, length, get_or, take, drop, eqb}
use Rattle.rules.specs.Names.{Bytes, Words, Day}
use Rattle.rules.specs.Signed.{joined, low_word, high_word}
use Rattle.rules.specs.Day.{earliest_day}
use Rattle.rules.specs.Layout.{leading_words, length_place, sum_place, low_day_place, high_day_place}

-- "its bytes taken as little-endian 16-bit numbers", all added up; where their number is odd, the last one counts as itself
unfoldable pub numbers_total : Bytes → ℕ
numbers_total [] = 0
numbers_total (b ∷ []) = b
numbers_total (b ∷ c ∷ bs) = b + 256 * c + numbers_total bs

-- "the sum modulo 65,536 of its bytes taken as little-endian 16-bit numbers"
unfoldable pub plan_sum : Bytes → ℕ
plan_sum bs = numbers_total bs % 65536

-- "the ledger's next two leading words hold the last accepted one as signed 32-bit, low word first"
unfoldable pub last_day : Words → Day
last_day ws = joined (get_or ws low_day_place 0) (get_or ws high_day_place 0)

-- the words with a day in that place
unfoldable pub dated : Day → Words → Words
dated day ws = take low_day_place ws ++ (low_word day ∷ high_word day ∷ drop leading_words ws)

-- "the plan's length in bytes, and the sum": "Begin writes them", whatever stood there, and "begin writes -109573"
unfoldable pub stamped : Bytes → Words → Words
stamped bs ws = length bs ∷ plan_sum bs ∷ low_word earliest_day ∷ high_word earliest_day ∷ drop leading_words ws

-- 24 "either word is not the plan's"
unfoldable pub other_plan : Bytes → Words → Bool
other_plan bs ws = not (eqb (get_or ws length_place 0) (length bs)) || not (eqb (get_or ws sum_place 0) (plan_sum bs))
