-- What the steps from days to a date find: a century, a year of it, a month, each with the days into it. Years are from March on. Assumes nothing.
use Rattle.std.specs.Prelude.{◌≡◌, ◌⊎◌, cond, ℕ, ◌+◌, ◌-◌, ◌*◌, ◌/◌, ◌<◌, ◌≤◌, ltb}
use Rattle.rules.specs.Calendar.{month_length, in_months}

-- years from March on end with February: the year in which the one that month m of year y lies in ends
abbrev pub march_year : ℕ → ℕ → ℕ
march_year y m = cond (ltb m 3) y (y + 1)

-- the days of a year from March on before its month m are s
pub record SinceMarch (m s : ℕ) : Type 0 where
  pub early : m < 3 → (y : ℕ) → s ≡ 306 + in_months y (m - 1)
  pub late : 3 ≤ m → (y : ℕ) → in_months y 2 + s ≡ in_months y (m - 1)

-- the day i days after 1 January 1600 lies d days into century c, century 0 beginning in March 1200
pub record CenturyIs (i c d : ℕ) : Type 0 where
  pub few : c ≤ 11
  pub whole : 146097 * c / 4 + d ≡ i + 146037
  pub short : i + 146037 < 146097 * (c + 1) / 4

-- the day d days into a century lies r days into its year y, the first being 0
pub record YearIs (d y r : ℕ) : Type 0 where
  pub small : y < 100
  pub whole : 1461 * y / 4 + r ≡ d
  pub short : d < 1461 * (y + 1) / 4

-- the day d days into a year lies r days into month m; how long February is, its year says
pub record MonthIs (d m r : ℕ) : Type 0 where
  pub first : 1 ≤ m
  pub last : m ≤ 12
  pub few : r ≤ d
  pub since : SinceMarch m (d - r)
  pub short : (m ≡ 2) ⊎ ((y : ℕ) → r < month_length y m)
