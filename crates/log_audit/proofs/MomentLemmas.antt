-- Dates and times of day by their digits.
use Rattle.std.proofs.Common.{◌≡◌, ℕ, ◌+◌, ◌-◌, ◌*◌, ◌&&◌, Bool, true, false, List, [], ◌∷◌, ◌++◌, length, get_or, refl, ap, sym, ◌∙◌, arith}
use Rattle.std.proofs.lemmas.Slice.Eq.{bytes_eq-Decides}
use Rattle.std.specs.Prelude.{bytes_eq, nat_lt, slice_range}
use Rattle.cdni_log.specs.Date.{CivilDate, clock_text, date_text, three_digits}
use Rattle.log_audit.specs.Value.{date_in, digits_of, is_date, is_date_of_years, is_time, second_in}

ten : (P : List ℕ → Type 0) → ((a b c d e f g h i j : ℕ) → P (a ∷ b ∷ c ∷ d ∷ e ∷ f ∷ g ∷ h ∷ i ∷ j ∷ [])) → (text : List ℕ) → length text ≡ 10 → P text
ten P at [] is = absurd (omega (arith, is))
ten P at (a ∷ []) is = absurd (omega (arith, is))
ten P at (a ∷ b ∷ []) is = absurd (omega (arith, is))
ten P at (a ∷ b ∷ c ∷ []) is = absurd (omega (arith, is))
ten P at (a ∷ b ∷ c ∷ d ∷ []) is = absurd (omega (arith, is))
ten P at (a ∷ b ∷ c ∷ d ∷ e ∷ []) is = absurd (omega (arith, is))
ten P at (a ∷ b ∷ c ∷ d ∷ e ∷ f ∷ []) is = absurd (omega (arith, is))
ten P at (a ∷ b ∷ c ∷ d ∷ e ∷ f ∷ g ∷ []) is = absurd (omega (arith, is))
ten P at (a ∷ b ∷ c ∷ d ∷ e ∷ f ∷ g ∷ h ∷ []) is = absurd (omega (arith, is))
ten P at (a ∷ b ∷ c ∷ d ∷ e ∷ f ∷ g ∷ h ∷ i ∷ []) is = absurd (omega (arith, is))
ten P at (a ∷ b ∷ c ∷ d ∷ e ∷ f ∷ g ∷ h ∷ i ∷ j ∷ []) is = at a b c d e f g h i j
ten P at (a ∷ b ∷ c ∷ d ∷ e ∷ f ∷ g ∷ h ∷ i ∷ j ∷ more ∷ rest) is = absurd (omega (arith, is))

twelve : (P : List ℕ → Type 0) → ((a b c d e f g h i j k m : ℕ) → P (a ∷ b ∷ c ∷ d ∷ e ∷ f ∷ g ∷ h ∷ i ∷ j ∷ k ∷ m ∷ [])) → (text : List ℕ) → length text ≡ 12 → P text
twelve P at [] is = absurd (omega (arith, is))
twelve P at (a ∷ []) is = absurd (omega (arith, is))
twelve P at (a ∷ b ∷ []) is = absurd (omega (arith, is))
twelve P at (a ∷ b ∷ c ∷ []) is = absurd (omega (arith, is))
twelve P at (a ∷ b ∷ c ∷ d ∷ []) is = absurd (omega (arith, is))
twelve P at (a ∷ b ∷ c ∷ d ∷ e ∷ []) is = absurd (omega (arith, is))
twelve P at (a ∷ b ∷ c ∷ d ∷ e ∷ f ∷ []) is = absurd (omega (arith, is))
twelve P at (a ∷ b ∷ c ∷ d ∷ e ∷ f ∷ g ∷ []) is = absurd (omega (arith, is))
twelve P at (a ∷ b ∷ c ∷ d ∷ e ∷ f ∷ g ∷ h ∷ []) is = absurd (omega (arith, is))
twelve P at (a ∷ b ∷ c ∷ d ∷ e ∷ f ∷ g ∷ h ∷ i ∷ []) is = absurd (omega (arith, is))
twelve P at (a ∷ b ∷ c ∷ d ∷ e ∷ f ∷ g ∷ h ∷ i ∷ j ∷ []) is = absurd (omega (arith, is))
twelve P at (a ∷ b ∷ c ∷ d ∷ e ∷ f ∷ g ∷ h ∷ i ∷ j ∷ k ∷ []) is = absurd (omega (arith, is))
twelve P at (a ∷ b ∷ c ∷ d ∷ e ∷ f ∷ g ∷ h ∷ i ∷ j ∷ k ∷ m ∷ []) is = at a b c d e f g h i j k m
twelve P at (a ∷ b ∷ c ∷ d ∷ e ∷ f ∷ g ∷ h ∷ i ∷ j ∷ k ∷ m ∷ more ∷ rest) is = absurd (omega (arith, is))

abbrev date_with : ℕ → ℕ → ℕ → CivilDate
date_with year month day = record { year = year; month = month; day = day }

date_digits : (text : List ℕ) → length text ≡ 10 → date_in text ≡ date_with (((get_or text 0 0 - 48) * 10 + (get_or text 1 0 - 48)) * 100 + ((get_or text 2 0 - 48) * 10 + (get_or text 3 0 - 48))) ((get_or text 5 0 - 48) * 10 + (get_or text 6 0 - 48)) ((get_or text 8 0 - 48) * 10 + (get_or text 9 0 - 48))
date_digits text is = ten (λ (text : List ℕ). date_in text ≡ date_with (((get_or text 0 0 - 48) * 10 + (get_or text 1 0 - 48)) * 100 + ((get_or text 2 0 - 48) * 10 + (get_or text 3 0 - 48))) ((get_or text 5 0 - 48) * 10 + (get_or text 6 0 - 48)) ((get_or text 8 0 - 48) * 10 + (get_or text 9 0 - 48))) (λ a b c d e f g h i j. same _ _ _ _ _ _ (omega arith) (omega arith) (omega arith)) text is
  where
    same : (y m d y2 m2 d2 : ℕ) → y ≡ y2 → m ≡ m2 → d ≡ d2 → date_with y m d ≡ date_with y2 m2 d2
    same y m d y2 m2 d2 one two three = rw (one, two, three) refl

pub date_test : (text : List ℕ) (year month day : ℕ) (result : Bool) → length text ≡ 10 → year ≡ ((get_or text 0 0 - 48) * 10 + (get_or text 1 0 - 48)) * 100 + ((get_or text 2 0 - 48) * 10 + (get_or text 3 0 - 48)) → month ≡ ((get_or text 5 0 - 48) * 10 + (get_or text 6 0 - 48)) → day ≡ ((get_or text 8 0 - 48) * 10 + (get_or text 9 0 - 48))
    → result ≡ (is_date_of_years (record { year = year; month = month; day = day }) && bytes_eq text (date_text (record { year = year; month = month; day = day }))) → result ≡ is_date text
unfolding is_date
date_test text year month day result is one two three test = by (date_in text) (date_digits text is ∙ sym (rw (one, two, three) refl))
  where
    by : (date : CivilDate) → date ≡ date_with year month day → result ≡ (is_date_of_years date && bytes_eq text (date_text date))
    by date same = rw same test

no_true : (b : Bool) → (b ≡ true → ⊥) → b ≡ false
no_true true never = absurd (never refl)
no_true false never = refl

and_false : (b : Bool) → (b && false) ≡ false
and_false true = refl
and_false false = refl

pub no_date : (text : List ℕ) → (length text ≡ 10 → ⊥) → false ≡ is_date text
unfolding is_date
no_date text other =
    sym (ap (λ t. is_date_of_years (date_in text) && t) (no_true (bytes_eq text (date_text (date_in text))) (λ is. other (ap length ((bytes_eq-Decides text (date_text (date_in text))).0 is)))) ∙ and_false (is_date_of_years (date_in text)))

second_digits : (text : List ℕ) → length text ≡ 12 → second_in text ≡ ((get_or text 0 0 - 48) * 10 + (get_or text 1 0 - 48)) * 3600 + ((get_or text 3 0 - 48) * 10 + (get_or text 4 0 - 48)) * 60 + ((get_or text 6 0 - 48) * 10 + (get_or text 7 0 - 48))
second_digits text is = twelve (λ (text : List ℕ). second_in text ≡ ((get_or text 0 0 - 48) * 10 + (get_or text 1 0 - 48)) * 3600 + ((get_or text 3 0 - 48) * 10 + (get_or text 4 0 - 48)) * 60 + ((get_or text 6 0 - 48) * 10 + (get_or text 7 0 - 48))) (λ a b c d e f g h i j k m. omega arith) text is

thousandth_digits : (text : List ℕ) → length text ≡ 12 → digits_of (slice_range text 9 12) ≡ ((get_or text 9 0 - 48) * 10 + (get_or text 10 0 - 48)) * 10 + (get_or text 11 0 - 48)
thousandth_digits text is = twelve (λ (text : List ℕ). digits_of (slice_range text 9 12) ≡ ((get_or text 9 0 - 48) * 10 + (get_or text 10 0 - 48)) * 10 + (get_or text 11 0 - 48)) (λ a b c d e f g h i j k m. omega arith) text is

pub time_test : (text : List ℕ) (second thousandth : ℕ) (result : Bool) → length text ≡ 12 → second ≡ ((get_or text 0 0 - 48) * 10 + (get_or text 1 0 - 48)) * 3600 + ((get_or text 3 0 - 48) * 10 + (get_or text 4 0 - 48)) * 60 + ((get_or text 6 0 - 48) * 10 + (get_or text 7 0 - 48)) → thousandth ≡ ((get_or text 9 0 - 48) * 10 + (get_or text 10 0 - 48)) * 10 + (get_or text 11 0 - 48)
    → result ≡ (nat_lt second 86400 && nat_lt thousandth 1000 && bytes_eq text (clock_text second ++ 46 ∷ three_digits thousandth)) → result ≡ is_time text
unfolding is_time
time_test text second thousandth result is one two test = by (second_in text) (second_digits text is ∙ sym one) (digits_of (slice_range text 9 12)) (thousandth_digits text is ∙ sym two)
  where
    by : (s : ℕ) → s ≡ second → (t : ℕ) → t ≡ thousandth → result ≡ (nat_lt s 86400 && nat_lt t 1000 && bytes_eq text (clock_text s ++ 46 ∷ three_digits t))
    by s e t f = rw (e, f) test
