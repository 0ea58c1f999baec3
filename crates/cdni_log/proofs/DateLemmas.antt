-- The date of a day is the one that the calendar gives it.
use Rattle.std.proofs.Common.{◌≡◌, ℕ, zero, suc, ◌+◌, ◌-◌, ◌/◌, ◌<◌, ◌≤◌, Bool, true, false, cond, nat_lt, refl, sym, ◌∙◌, ap, arith}
use Rattle.std.proofs.lemmas.Bool.{ltb-true}
use Rattle.std.proofs.lemmas.Bool.Decides.{nat_tests}
use Rattle.httpdate.specs.Calendar.{days_in_year, days_in_month, days_of_years, days_of_months, weekday}
use Rattle.httpdate.specs.Valid.{IsValid, parts_secs}
use Rattle.httpdate.specs.Date.{date_text, unix_secs}
use Rattle.httpdate.specs.Text.{imf_fixdate}
use Rattle.httpdate.specs.declared.date.HttpDate.{HttpDate}
use Rattle.httpdate.proofs.CalendarLemmas.{days_of_years_closed, days_of_months_all, days_of_months_more}
use Rattle.httpdate.proofs.ValidLemmas.{is_valid_complete}
use Rattle.httpdate.proofs.Theorems.{date_text_is}
use Rattle.cdni_log.specs.Date.{year_from, month_from, date_of, IsDateOf}
use Rattle.cdni_log.specs.HttpParts.{parts_of}

-- what follows from a test and from its failure holds of the choice
by_test : {A : Type 0} (P : A → Type 0) (b : Bool) (x y : A) → (b ≡ true → P x) → (b ≡ false → P y) → P (cond b x y)
by_test P true x y then other = then refl
by_test P false x y then other = other refl

not_below : (a b : ℕ) → nat_lt a b ≡ false → b ≤ a
not_below a b e = grind (arith, nat_tests)

years_have_days : (y : ℕ) → 365 ≤ days_in_year y
years_have_days y = grind (arith, nat_tests)

months_have_days : (y m : ℕ) → 28 ≤ days_in_month y m
months_have_days y m = grind (arith, nat_tests)

-- this is the year of a day, and so many days of it lie before the day
record IsYearOf (k day : ℕ) (place : ℕ × ℕ) : Type 0 where
  from : 1970 ≤ place.0
  within : place.1 < days_in_year place.0
  same : days_of_years (place.0 - 1970) + place.1 ≡ days_of_years k + day

next_year : (k : ℕ) → days_of_years (suc k) ≡ days_of_years k + days_in_year (1970 + k)
unfolding days_of_years
next_year k = refl

year_from_is : (n k day : ℕ) → day ≤ n → IsYearOf k day (year_from n (1970 + k) day)
unfolding year_from
year_from_is zero k day h =
    let back : 1970 + k - 1970 ≡ k = omega arith in
    record {
      from = omega arith;
      within = omega (arith, years_have_days (1970 + k));
      same = rw back;
    }
year_from_is (suc n) k day h =
    by_test (IsYearOf k day) (nat_lt day (days_in_year (1970 + k))) _ _
    (λ e.
    let back : 1970 + k - 1970 ≡ k = omega arith in
    record { from = omega arith; within = ltb-true _ _ e; same = rw back })
    (λ e.
    let past = not_below day (days_in_year (1970 + k)) e in
    let days = years_have_days (1970 + k) in
    let fewer : day - days_in_year (1970 + k) ≤ n = omega arith in
    let step = year_from_is n (suc k) (day - days_in_year (1970 + k)) fewer in
    let next : 1970 + suc k ≡ 1970 + k + 1 = omega arith in
    let here = rw next at step in
    let grown = next_year k in
    record { from = here.from; within = here.within; same = here.same ∙ omega arith })

-- this is the month of a day of a year, and so many days of it lie before the day
record IsMonthOf (y m day : ℕ) (place : ℕ × ℕ) : Type 0 where
  from : 1 ≤ place.0
  within : place.1 < days_in_month y place.0
  same : days_of_months y (place.0 - 1) + place.1 ≡ days_of_months y (m - 1) + day

month_from_is : (n y m day : ℕ) → 1 ≤ m → day ≤ n → IsMonthOf y m day (month_from n y m day)
unfolding month_from
month_from_is zero y m day from h =
    record { from = from; within = omega (arith, months_have_days y m); same = refl }
month_from_is (suc n) y m day from h =
    by_test (IsMonthOf y m day) (nat_lt day (days_in_month y m)) _ _
    (λ e. record { from = from; within = ltb-true _ _ e; same = refl })
    (λ e.
    let past = not_below day (days_in_month y m) e in
    let days = months_have_days y m in
    let fewer : day - days_in_month y m ≤ n = omega arith in
    let later : 1 ≤ m + 1 = omega arith in
    let step = month_from_is n y (m + 1) (day - days_in_month y m) later fewer in
    let back : m + 1 - 1 ≡ m = omega arith in
    let here = rw back at step.same in
    let grown = days_of_months_more y m from in
    record { from = step.from; within = step.within; same = here ∙ omega arith })

more_months : (y m k : ℕ) → days_of_months y m ≤ days_of_months y (m + k)
unfolding days_of_months
more_months y m zero = let same : m + 0 ≡ m = omega arith in rw same (omega arith)
more_months y m (suc k) =
    let before = more_months y m k in
    let next : m + suc k ≡ suc (m + k) = omega arith in
    rw next (omega arith)

few_months : (y m : ℕ) → days_of_months y (m - 1) < days_in_year y → m ≤ 12
few_months y m h =
    elim (nat_lt 12 m) as (λ b. nat_lt 12 m ≡ b → m ≤ 12) [
      | true ↦ λ e.
          let above : 12 < m = ltb-true 12 m e in
          let apart : 12 + (m - 13) ≡ m - 1 = omega arith in
          let grown = rw apart at (more_months y 12 (m - 13)) in
          absurd (omega (arith, days_of_months_all y, grown))
      | false ↦ λ e. not_below 12 m e
    ] refl

few_years : (n : ℕ) → days_of_years n < 2932897 → n ≤ 8029
few_years n h = omega (arith, days_of_years_closed n)

no_years : days_of_years 0 ≡ 0
unfolding days_of_years
no_years = refl

no_months : (y : ℕ) → days_of_months y 0 ≡ 0
unfolding days_of_months
no_months y = refl

pub date_of_is : (day : ℕ) → day < 2932897 → IsDateOf day (date_of day)
unfolding date_of
date_of_is day h =
    let year = year_from_is day 0 day (omega arith) in
    let zero_years : days_of_years 0 ≡ 0 = no_years in
    let place = year_from day 1970 day in
    let month = month_from_is place.1 place.0 1 place.1 (omega arith) (omega arith) in
    let none : days_of_months place.0 0 ≡ 0 = no_months place.0 in
    let months = few_months place.0 (month_from place.1 place.0 1 place.1).0 (omega (arith, year.within, month.same)) in
    let years = few_years (place.0 - 1970) (omega (arith, year.same)) in (
      ((year.from, omega arith), (month.from, months), (omega arith, omega (arith, month.within))),
      omega (arith, year.same, month.same),
    )

-- the numbers of a second are a date and a time of day
valid : (second : ℕ) → second < 253402300800 → IsValid (parts_of second)
valid second h =
    let date = date_of_is (second / 86400) (omega arith) in
    (date.0, (omega arith, omega arith, omega arith), ap weekday (sym date.1))

seconds : (second : ℕ) → second < 253402300800 → second ≡ parts_secs (parts_of second)
seconds second h =
    let date = date_of_is (second / 86400) (omega arith) in
    rw date.1 (omega arith)

-- the HTTP date of a second shows its numbers
pub date_text_of : (second : ℕ) (date : HttpDate) → second < 253402300800 → unix_secs date ≡ second → date_text date ≡ imf_fixdate (parts_of second)
date_text_of second date h e =
    date_text_is date (parts_of second) (is_valid_complete (parts_of second) (valid second h)) (e ∙ seconds second h)
