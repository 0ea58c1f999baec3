-- Dates and times of day, UTC (RFC 7937, section 3.1, after RFC 3339), without leap seconds.
use Rattle.std.specs.Prelude.{◌≡◌, ℕ, zero, suc, ◌+◌, ◌-◌, ◌/◌, ◌%◌, List, [], ◌∷◌, ◌++◌, codes, min, nat_lt, if◌then◌else◌}
use Rattle.httpdate.specs.Calendar.{days_in_year, days_in_month, days_from_civil, IsCivilDate}
use Rattle.httpdate.specs.Text.{two_digits, four_digits}
use Rattle.cdni_log.specs.declared.date.TheConstants.{LAST_MOMENT}

-- a day of the calendar; months and days of a month are counted from 1
pub record CivilDate : Type 0 where
  pub year : ℕ
  pub month : ℕ
  pub day : ℕ

-- the year of a day, and how many days of that year lie before it; the day is counted from the beginning of this year,
-- and at most so many years are passed over
unfoldable pub year_from : ℕ → ℕ → ℕ → ℕ × ℕ
year_from zero year day = (year, day)
year_from (suc n) year day = if nat_lt day (days_in_year year) then (year, day)
    else year_from n (year + 1) (day - days_in_year year)

-- the same of a month of a year, of which at most so many are passed over
unfoldable pub month_from : ℕ → ℕ → ℕ → ℕ → ℕ × ℕ
month_from zero year month day = (month, day)
month_from (suc n) year month day = if nat_lt day (days_in_month year month) then (month, day)
    else month_from n year (month + 1) (day - days_in_month year month)

abbrev pub date_in_month : ℕ → ℕ × ℕ → CivilDate
date_in_month year place = record { year = year; month = place.0; day = place.1 + 1 }

abbrev pub date_in_year : ℕ × ℕ → CivilDate
date_in_year place = date_in_month place.0 (month_from place.1 place.0 1 place.1)

-- the date of a day, counted from 1 January 1970, which is day 0
unfoldable pub date_of : ℕ → CivilDate
date_of day = date_in_year (year_from day 1970 day)

-- the calendar has this date, and so many days lie between 1 January 1970 and it
abbrev pub IsDateOf : ℕ → CivilDate → Type 0
IsDateOf day date =
    IsCivilDate date.year date.month date.day × (days_from_civil date.year date.month date.day ≡ day)

-- the last millisecond of the year 9999 stands for each later one
abbrev pub shown : ℕ → ℕ
shown moment = min moment LAST_MOMENT

-- `YYYY-MM-DD`
abbrev pub date_text : CivilDate → List ℕ
date_text date = four_digits date.year ++ codes "-" ++ two_digits date.month ++ codes "-" ++ two_digits date.day

-- a number below 1000, in three digits
abbrev pub three_digits : ℕ → List ℕ
three_digits n = (48 + n / 100) ∷ (48 + n / 10 % 10) ∷ (48 + n % 10) ∷ []

-- `HH:MM:SS` of a second of a day
abbrev pub clock_text : ℕ → List ℕ
clock_text second =
    two_digits (second / 3600) ++ codes ":" ++ two_digits (second % 3600 / 60) ++ codes ":" ++ two_digits (second % 60)

-- the date of a moment
unfoldable pub date_field : ℕ → List ℕ
date_field moment = date_text (date_of (shown moment / 1000 / 86400))

-- its time of day with milliseconds, as `HH:MM:SS.mmm`
unfoldable pub time_field : ℕ → List ℕ
time_field moment = clock_text (shown moment / 1000 % 86400) ++ codes "." ++ three_digits (shown moment % 1000)
