-- Worked examples of both conversions: the epoch, the days beside a leap day, the ends of the range, and what is turned back. The day of a date is
-- computed; the date of a day follows, as one conversion undoes the other. Assumes nothing.
use Rattle.std.proofs.Common.{◌≡◌, refl, ℕ, pos, negsuc}
use Rattle.rules.specs.Day.{is_day}
use Rattle.rules.specs.Calendar.{date, is_leap, february, month_length, is_date, in_months, in_years, days_to}
use Rattle.rules.specs.Conversion.{refusal, found, day_number, date_of_day, day_of_date}
use Rattle.calendar.proofs.Theorems.{there_and_back}

-- every definition that an example computes by
unfoldable computing : ℕ
unfolding day_of_date date_of_day is_day is_date month_length february is_leap day_number days_to in_years in_months
computing = 0

-- day 0, the epoch
pub first_of_1900 : day_of_date (date 1900 1 1) ≡ found (pos 0)
unfolding computing
first_of_1900 = refl

pub first_of_1900_back : date_of_day (pos 0) ≡ found (date 1900 1 1)
first_of_1900_back = there_and_back _ _ first_of_1900

-- day -1
pub last_of_1899 : day_of_date (date 1899 12 31) ≡ found (negsuc 0)
unfolding computing
last_of_1899 = refl

pub last_of_1899_back : date_of_day (negsuc 0) ≡ found (date 1899 12 31)
last_of_1899_back = there_and_back _ _ last_of_1899

-- day 59: 1900 is no leap year
pub march_of_1900 : day_of_date (date 1900 3 1) ≡ found (pos 59)
unfolding computing
march_of_1900 = refl

pub march_of_1900_back : date_of_day (pos 59) ≡ found (date 1900 3 1)
march_of_1900_back = there_and_back _ _ march_of_1900

-- day 36583: 2000 is one
pub leap_day_of_2000 : day_of_date (date 2000 2 29) ≡ found (pos 36583)
unfolding computing
leap_day_of_2000 = refl

pub leap_day_of_2000_back : date_of_day (pos 36583) ≡ found (date 2000 2 29)
leap_day_of_2000_back = there_and_back _ _ leap_day_of_2000

-- the earliest day, -109573
pub earliest : day_of_date (date 1600 1 1) ≡ found (negsuc 109572)
unfolding computing
earliest = refl

pub earliest_back : date_of_day (negsuc 109572) ≡ found (date 1600 1 1)
earliest_back = there_and_back _ _ earliest

-- the latest, 182620
pub latest : day_of_date (date 2399 12 31) ≡ found (pos 182620)
unfolding computing
latest = refl

pub latest_back : date_of_day (pos 182620) ≡ found (date 2399 12 31)
latest_back = there_and_back _ _ latest

-- no leap day in 1900, and no 30 February
pub no_leap_day_of_1900 : day_of_date (date 1900 2 29) ≡ refusal 26
unfolding computing
no_leap_day_of_1900 = refl

pub no_february_30 : day_of_date (date 2000 2 30) ≡ refusal 26
unfolding computing
no_february_30 = refl

-- no month 0 and no month 13
pub no_month_0 : day_of_date (date 1900 0 1) ≡ refusal 26
unfolding computing
no_month_0 = refl

pub no_month_13 : day_of_date (date 1900 13 1) ≡ refusal 26
unfolding computing
no_month_13 = refl

-- no day 0
pub no_day_0 : day_of_date (date 1900 1 0) ≡ refusal 26
unfolding computing
no_day_0 = refl

-- no year 1599 and no year 2400
pub no_year_1599 : day_of_date (date 1599 12 31) ≡ refusal 26
unfolding computing
no_year_1599 = refl

pub no_year_2400 : day_of_date (date 2400 1 1) ≡ refusal 26
unfolding computing
no_year_2400 = refl

-- the days before the earliest and after the latest
pub too_early : date_of_day (negsuc 109573) ≡ refusal 26
unfolding computing
too_early = refl

pub too_late : date_of_day (pos 182621) ≡ refusal 26
unfolding computing
too_late = refl
