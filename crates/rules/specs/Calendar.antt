-- The Gregorian calendar from 1 January 1600 on, by its rules: leap years, the lengths of months, one day after another. Assumes nothing.
use Rattle.std.specs.Prelude.{Bool, cond, not, ◌&&◌, ◌||◌, List, [], ◌∷◌, ℕ, zero, suc, ◌+◌, ◌-◌, ◌%◌, get_or, leb, ltb, eqb}
use Rattle.rules.specs.declared.Date.{Date}

abbrev pub date : ℕ → ℕ → ℕ → Date
date y m d = record { year = y; month = m; day = d }

-- every fourth year, but of the hundredth years only every fourth
unfoldable pub is_leap : ℕ → Bool
is_leap y = eqb (y % 4) 0 && (not (eqb (y % 100) 0) || eqb (y % 400) 0)

unfoldable pub february : ℕ → ℕ
february y = cond (is_leap y) 29 28

-- the months of a year, January first
abbrev pub months : ℕ → List ℕ
months y = 31 ∷ february y ∷ 31 ∷ 30 ∷ 31 ∷ 30 ∷ 31 ∷ 31 ∷ 30 ∷ 31 ∷ 30 ∷ 31 ∷ []

-- a month's length; January is 1
unfoldable pub month_length : ℕ → ℕ → ℕ
month_length y m = get_or (months y) (m - 1) 0

-- a date that the calendar has, from 1600 to 2399
unfoldable pub is_date : Date → Bool
is_date D =
    leb 1600 D.year && leb D.year 2399 && leb 1 D.month && leb D.month 12
    && leb 1 D.day && leb D.day (month_length D.year D.month)

-- the day after
unfoldable pub next_date : Date → Date
next_date D =
    cond (ltb D.day (month_length D.year D.month)) (date D.year D.month (D.day + 1))
    (cond (ltb D.month 12) (date D.year (D.month + 1) 1) (date (D.year + 1) 1 1))

-- the date n days after 1 January 1600
unfoldable pub date_after : ℕ → Date
date_after zero = date 1600 1 1
date_after (suc n) = next_date (date_after n)

-- the days of a year's first m months, and of the k years from 1600 on
unfoldable pub in_months : ℕ → ℕ → ℕ
in_months y zero = 0
in_months y (suc m) = in_months y m + get_or (months y) m 0

unfoldable pub in_years : ℕ → ℕ
in_years zero = 0
in_years (suc k) = in_years k + in_months (1600 + k) 12

-- the days from 1 January 1600 to a date
unfoldable pub days_to : Date → ℕ
days_to D = in_years (D.year - 1600) + in_months D.year (D.month - 1) + (D.day - 1)
