-- The two conversions between days and dates, given "no plan or ledger". Assumes nothing.
use Rattle.std.specs.Prelude.{cond, ℕ, pos, nat_abs, ◌+ℤ◌, ◌-ℤ◌}
use Rattle.rules.specs.Names.{Refusal, Day}
use Rattle.rules.specs.declared.Date.{Date}
use Rattle.rules.specs.Day.{is_day}
use Rattle.rules.specs.Calendar.{is_date, date_after, days_to}

-- a refusal, or what was asked for
pub data Converted (A : Type 0) : Type 0 where
  refusal : Refusal → Converted A
  found : A → Converted A

-- "Day 0 is 1 January 1900, Gregorian": so many days after 1 January 1600
abbrev pub epoch : ℕ
epoch = 109573

-- the days from 1 January 1600 to a day
unfoldable pub days_since : Day → ℕ
days_since z = nat_abs (z +ℤ pos epoch)

-- the number of a date's day
unfoldable pub day_number : Date → Day
day_number D = pos (days_to D) -ℤ pos epoch

-- "turns back any other day or date as 26"
unfoldable pub date_of_day : Day → Converted Date
date_of_day z = cond (is_day z) (found (date_after (days_since z))) (refusal 26)

unfoldable pub day_of_date : Date → Converted Day
day_of_date D = cond (is_date D) (found (day_number D)) (refusal 26)
