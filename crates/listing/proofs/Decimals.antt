-- What decimal digits write is what `decimal` writes again.
use Rattle.std.proofs.Common.{◌≡◌, ℕ, ◌+◌, ◌-◌, ◌*◌, ◌^◌, ◌<◌, ◌≤◌, Bool, true, false, cond, List, [], ◌∷◌, length, get_or, refl, rules, sym, ◌∙◌, ap, arith, inl, inr, lit<, None, Some, IfSome, decimal}
use Rattle.std.specs.declared.option.Option.{Option}
use Rattle.std.specs.Str.{all_ascii_digits}
use Rattle.std.proofs.lemmas.Bool.{and_parts, and_from, ltb-true, lt-ltb, cases_lt, both_ways, not_from_false, and_left, ne_eqb, not-true, eq-eqb, cond-true}
use Rattle.std.proofs.lemmas.Str.Parse.{IsNumeralModel, numerals_by_fold}
use Rattle.std.proofs.lemmas.Fmt.{digits_decimal, digits_value-decimal, decimal-digits_value, decimal_nonempty, first_decimal, decimal_digit}
use Rattle.listing.specs.Number.{number_after, number_of, is_unpadded}

-- the digits' number, with no limit
abbrev folded : ℕ → List ℕ → ℕ
folded n [] = n
folded n (b ∷ bs) = folded (n * 10 + (b - 48)) bs

own : IsNumeralModel (λ ds. all_ascii_digits ds ≡ true) (folded 0)
own = numerals_by_fold _ (search rules) folded (search rules)

folded-le : (n : ℕ) (bs : List ℕ) → n ≤ folded n bs
folded-le n [] = omega arith
folded-le n (b ∷ bs) = let h = folded-le (n * 10 + (b - 48)) bs in omega arith

guarded : {A : Type 0} (t : Bool) (o : Option A) (m : A) → cond t o None ≡ Some m → (t ≡ true) × (o ≡ Some m)
guarded true o m is = (refl, is)
guarded false o m is = absurd (cc)

folded_of_number : (n m : ℕ) (bs : List ℕ) → n < 2 ^ 64 → number_after n bs ≡ Some m → (all_ascii_digits bs ≡ true) × (folded n bs ≡ m) × (m < 2 ^ 64)
folded_of_number n m [] small is = let e : n ≡ m = cc in (refl, e, omega arith)
folded_of_number n m (b ∷ bs) small is =
    let g = guarded _ _ m is in
    let p = and_parts _ _ g.0 in
    let r = folded_of_number (n * 10 + (b - 48)) m bs (ltb-true _ _ p.1) g.1 in (and_from _ _ p.0 r.0, r.1, r.2)

number_of_folded : (n : ℕ) (bs : List ℕ) → all_ascii_digits bs ≡ true → folded n bs < 2 ^ 64 → number_after n bs ≡ Some (folded n bs)
number_of_folded n [] digits small = refl
number_of_folded n (b ∷ bs) digits small =
    let h = folded-le (n * 10 + (b - 48)) bs in
    let below : n * 10 + (b - 48) < 2 ^ 64 = omega arith in
    let p = and_parts _ _ digits in
    cond-true _ _ _ (and_from _ _ p.0 (lt-ltb _ _ below)) ∙ number_of_folded (n * 10 + (b - 48)) bs p.1 small

unpadded_first : (text : List ℕ) → is_unpadded text ≡ true → (0 < length text) × (get_or text 0 0 ≡ 48 → length text ≡ 1)
unpadded_first text is =
    let p = and_parts _ _ is in
    let some = ltb-true _ _ p.0 in
    (some, λ zero_first. elim (cases_lt 1 (length text)) [ inl more ↦ absurd (both_ways _ (not-true _ p.1) (and_from _ _ (eq-eqb _ _ zero_first) (lt-ltb _ _ more))) | inr one ↦ omega arith ])

-- what is read is what is written of the number
decimal_of_number : (text : List ℕ) (n : ℕ) → number_of text ≡ Some n → text ≡ decimal n
decimal_of_number text n is =
    let g = guarded _ _ n is in
    let u = unpadded_first text g.0 in
    let f = folded_of_number 0 n text (lit< tt) g.1 in
    sym (decimal-digits_value own text f.0 u.0 u.1 (omega (arith, f.1, f.2))) ∙ ap decimal f.1

unpadded_decimal : (n : ℕ) → n < 2 ^ 64 → is_unpadded (decimal n) ≡ true
unpadded_decimal n small = elim (cases_lt 0 n) [
  | inl more ↦ let not_zero : get_or (decimal n) 0 0 ≡ 48 → ⊥ = λ is. omega (arith, first_decimal n more small, is) in
      and_from _ _ (lt-ltb _ _ (decimal_nonempty n small)) (not_from_false _ (and_left _ _ (ne_eqb _ _ not_zero)))
  | inr none ↦ let zero_is : n ≡ 0 = omega arith in rw (zero_is, decimal_digit 0 (lit< tt)) refl
]

-- what is written of a number is read as it
number_of_decimal : (n : ℕ) → n < 2 ^ 64 → number_of (decimal n) ≡ Some n
number_of_decimal n small =
    let v = digits_value-decimal own n small in
    cond-true _ _ _ (unpadded_decimal n small) ∙ number_of_folded 0 (decimal n) (digits_decimal own n small) (omega (arith, v)) ∙ ap Some v

pub some_decimal : (text : List ℕ) (read : Option ℕ) → read ≡ number_of text → IfSome read (λ n. text ≡ decimal n)
some_decimal text None is = tt
some_decimal text (Some n) is = decimal_of_number text n (sym is)

pub decimal_some : (text : List ℕ) (read : Option ℕ) → read ≡ number_of text → (n : ℕ) → n < 2 ^ 64 → text ≡ decimal n → read ≡ Some n
decimal_some text read is n small written = is ∙ ap number_of written ∙ number_of_decimal n small
