-- Where the numbers stand in an HTTP date.
use Rattle.std.proofs.Common.{◌≡◌, ℕ, zero, suc, ◌/◌, ◌<◌, ◌≤◌, ap, ◌∙◌, List, [], ◌∷◌, ◌++◌, codes, refl, arith}
use Rattle.std.specs.Prelude.{slice_range}
use Rattle.httpdate.specs.Text.{day_name, month_name, two_digits, four_digits, time_of_day, imf_fixdate}
use Rattle.httpdate.specs.declared.parts.Parts.{Parts}
use Rattle.cdni_log.specs.HttpParts.{number_of_month, parts_of}
use Rattle.cdni_log.proofs.DateLemmas.{date_of_is}

-- an HTTP date with these names
abbrev dated : List ℕ → List ℕ → Parts → List ℕ
dated day month p =
    day ++ codes ", " ++ two_digits p.day ++ codes " " ++ month ++ codes " "
    ++ four_digits p.year ++ codes " " ++ time_of_day p ++ codes " GMT"

-- these parts of the text show the numbers
pub record Shows (text : List ℕ) (p : Parts) : Type 0 where
  pub year : slice_range text 12 16 ≡ four_digits p.year
  pub month : slice_range text 8 11 ≡ month_name p.mon
  pub day : slice_range text 5 7 ≡ two_digits p.day
  pub clock : slice_range text 17 25 ≡ time_of_day p

-- the text has three letters
abbrev HasThree : List ℕ → Type 0
HasThree text = (a : ℕ) × (b : ℕ) × (c : ℕ) × (text ≡ a ∷ b ∷ c ∷ [])

day_has_three : (day : ℕ) → 1 ≤ day → day ≤ 7 → HasThree (day_name day)
day_has_three zero h k = absurd (omega arith)
day_has_three (suc zero) h k = (_, _, _, refl)
day_has_three (suc (suc zero)) h k = (_, _, _, refl)
day_has_three (suc (suc (suc zero))) h k = (_, _, _, refl)
day_has_three (suc (suc (suc (suc zero)))) h k = (_, _, _, refl)
day_has_three (suc (suc (suc (suc (suc zero))))) h k = (_, _, _, refl)
day_has_three (suc (suc (suc (suc (suc (suc zero)))))) h k = (_, _, _, refl)
day_has_three (suc (suc (suc (suc (suc (suc (suc zero))))))) h k = (_, _, _, refl)
day_has_three (suc (suc (suc (suc (suc (suc (suc (suc n)))))))) h k = absurd (omega arith)

-- a month's name has three letters, and is the name of no other
abbrev IsNamed : ℕ → Type 0
IsNamed month = HasThree (month_name month) × (number_of_month (month_name month) ≡ month)

pub month_is_named : (month : ℕ) → 1 ≤ month → month ≤ 12 → IsNamed month
month_is_named zero h k = absurd (omega arith)
month_is_named (suc zero) h k = ((_, _, _, refl), refl)
month_is_named (suc (suc zero)) h k = ((_, _, _, refl), refl)
month_is_named (suc (suc (suc zero))) h k = ((_, _, _, refl), refl)
month_is_named (suc (suc (suc (suc zero)))) h k = ((_, _, _, refl), refl)
month_is_named (suc (suc (suc (suc (suc zero))))) h k = ((_, _, _, refl), refl)
month_is_named (suc (suc (suc (suc (suc (suc zero)))))) h k = ((_, _, _, refl), refl)
month_is_named (suc (suc (suc (suc (suc (suc (suc zero))))))) h k = ((_, _, _, refl), refl)
month_is_named (suc (suc (suc (suc (suc (suc (suc (suc zero)))))))) h k = ((_, _, _, refl), refl)
month_is_named (suc (suc (suc (suc (suc (suc (suc (suc (suc zero))))))))) h k = ((_, _, _, refl), refl)
month_is_named (suc (suc (suc (suc (suc (suc (suc (suc (suc (suc zero)))))))))) h k = ((_, _, _, refl), refl)
month_is_named (suc (suc (suc (suc (suc (suc (suc (suc (suc (suc (suc zero))))))))))) h k = ((_, _, _, refl), refl)
month_is_named (suc (suc (suc (suc (suc (suc (suc (suc (suc (suc (suc (suc zero)))))))))))) h k = ((_, _, _, refl), refl)
month_is_named (suc (suc (suc (suc (suc (suc (suc (suc (suc (suc (suc (suc (suc n))))))))))))) h k = absurd (omega arith)

-- the same as `Shows`, of a month of this name
abbrev Dated : List ℕ → List ℕ → Parts → Type 0
Dated text month p = (slice_range text 12 16 ≡ four_digits p.year) × (slice_range text 8 11 ≡ month)
    × (slice_range text 5 7 ≡ two_digits p.day) × (slice_range text 17 25 ≡ time_of_day p)

-- each number stands in its place behind names of three letters
dated_shows : (a b c x y z : ℕ) (p : Parts) → Dated (dated (a ∷ b ∷ c ∷ []) (x ∷ y ∷ z ∷ []) p) (x ∷ y ∷ z ∷ []) p
dated_shows a b c x y z p = (refl, refl, refl, refl)

dated_as : (day month : List ℕ) (p : Parts) → HasThree day → HasThree month → Dated (dated day month p) month p
dated_as day month p d m = rw (d.3, m.3) (dated_shows d.0 d.1 d.2 m.0 m.1 m.2 p)

pub fixdate_shows : (p : Parts) → 1 ≤ p.wday → p.wday ≤ 7 → 1 ≤ p.mon → p.mon ≤ 12 → Shows (imf_fixdate p) p
fixdate_shows p d₁ d₇ m₁ m₁₂ =
    let shown = dated_as (day_name p.wday) (month_name p.mon) p (day_has_three p.wday d₁ d₇) (month_is_named p.mon m₁ m₁₂).0 in
    record { year = shown.0; month = shown.1; day = shown.2; clock = shown.3 }

-- the HTTP date of a second shows its numbers
pub second_shows : (second : ℕ) (text : List ℕ) → second < 253402300800 → text ≡ imf_fixdate (parts_of second) → Shows text (parts_of second)
second_shows second text h e =
    let date = date_of_is (second / 86400) (omega arith) in
    rw e (fixdate_shows (parts_of second) (omega arith) (omega arith) date.0.1.0 date.0.1.1)

pub month_shows : (second : ℕ) (text : List ℕ) → second < 253402300800 → Shows text (parts_of second) → number_of_month (slice_range text 8 11) ≡ (parts_of second).mon
month_shows second text h shown =
    let date = date_of_is (second / 86400) (omega arith) in
    ap number_of_month shown.month ∙ (month_is_named (parts_of second).mon date.0.1.0 date.0.1.1).1
