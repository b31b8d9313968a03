-- A call's answer as one number of 64 bits, for callers in other languages. Assumes nothing.
use Rattle.std.specs.Prelude.{◌≡◌, cond, List, [], ◌∷◌, ℕ, ◌+◌, ◌*◌, length, eqb}
use Rattle.rules.specs.Names.{Words, Day}
use Rattle.rules.specs.Layout.{entries_place}
use Rattle.rules.specs.declared.Date.{Date}
use Rattle.rules.specs.declared.Terms.{Terms}
use Rattle.rules.specs.Signed.{bits_of}
use Rattle.rules.specs.Acceptance.{Reading, turned_back, accepted}
use Rattle.rules.specs.Call.{Answer, refusal, done, Outcome}
use Rattle.rules.specs.Conversion.{Converted}
use Rattle.rules.specs.Conversion as converted

-- what a figure is multiplied by to stand at bit 16, at bit 32 and at bit 48
unfoldable pub bit16 : ℕ
bit16 = 65536

unfoldable pub bit32 : ℕ
bit32 = 4294967296

unfoldable pub bit48 : ℕ
bit48 = 281474976710656

-- Read's: bits 0 to 15 the refusal, 0 where accepted; bits 16 to 31 the tracks, 32 to 47 the states, 48 to 63 the transitions
unfoldable pub packed_reading : Reading → ℕ
packed_reading (turned_back n) = n
packed_reading (accepted c) = c.tracks * bit16 + c.states * bit32 + c.transitions * bit48

-- bits 0 to 15 the refusal, 0 where accepted; bits 16 to 31 and 32 to 47 the figures
unfoldable pub packed : Answer → ℕ
packed (refusal n) = n
packed (done []) = 0
packed (done (a ∷ [])) = a * bit16
packed (done (a ∷ b ∷ _)) = a * bit16 + b * bit32

-- Ready's: bits 0 to 15 the refusal, bits 32 to 63 the number
unfoldable pub packed_ready : Answer → ℕ
packed_ready (refusal n) = n
packed_ready (done []) = 0
packed_ready (done (bits ∷ _)) = bits * bit32

-- Entries': bits 0 to 15 the count of words of a track's part, bits 16 to 47 the index of its first word; 0 for the empty part
unfoldable pub packed_part : (terms : Terms) → List ℕ → ℕ → ℕ
packed_part terms part t = cond (eqb (length part) 0) 0 (length part + entries_place terms t * bit16)

-- The date of a day: bits 0 to 15 the refusal, bits 16 to 31 the year, 32 to 47 the month, 48 to 63 the day
unfoldable pub packed_date : Converted Date → ℕ
packed_date (converted.refusal n) = n
packed_date (converted.found d) = d.year * bit16 + d.month * bit32 + d.day * bit48

-- The day of a date: bits 0 to 15 the refusal, bits 32 to 63 the day as a 32-bit number in two's complement
unfoldable pub packed_day : Converted Day → ℕ
packed_day (converted.refusal n) = n
packed_day (converted.found z) = bits_of z * bit32

-- What a contract promises: the number is the outcome's answer, packed, and every lent word is the outcome's.
pub record Returns (pack : Answer → ℕ) (o : Outcome) (number : ℕ) (words : Words) : Type 0 where
  pub answered : number ≡ pack o.answer
  pub left : words ≡ o.words
