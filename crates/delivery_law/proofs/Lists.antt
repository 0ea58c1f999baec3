-- What is true of each element of a list that is made of others.
use Rattle.std.proofs.Common.{◌≡◌, Bool, true, false, List, [], ◌∷◌, All, refl, sym, ap, ◌∙◌, subst, inl, inr, None, Some, Option}
use Rattle.std.specs.List.{filter, find, list_any}
use Rattle.std.specs.Option.{option_to_list}
use Rattle.std.proofs.lemmas.Bool.{cases_Bool, cond-true, cond-false, or_parts, or_left, or_right}
use Rattle.std.proofs.lemmas.List.Elements.{All-cons, All-head, All-nil, All-tail}
use Rattle.std.proofs.lemmas.Option.{none-some, same_Some}

module _ {A : Type 0} where
  -- what was found is one of them, and passes the test
  pub found_is : (P : A → Type 0) (test : A → Bool) (xs : List A) (x : A) → All P xs → find test xs ≡ Some x → P x × (test x ≡ true)
  found_is P test [] x all is = absurd (none-some x is)
  found_is P test (y ∷ ys) x all is = elim (cases_Bool (test y)) [
    | inl passes ↦
        let same : y ≡ x = same_Some y x (sym (cond-true (test y) (Some y) (find test ys) passes) ∙ is) in
        (subst P same (All-head P y ys all), ap test (sym same) ∙ passes)
    | inr fails ↦ found_is P test ys x (All-tail P y ys all) (sym (cond-false (test y) (Some y) (find test ys) fails) ∙ is)
  ]

  pub found_any : (test : A → Bool) (xs : List A) (x : A) → find test xs ≡ Some x → list_any test xs ≡ true
  found_any test [] x is = absurd (none-some x is)
  found_any test (y ∷ ys) x is = elim (cases_Bool (test y)) [
    | inl passes ↦ or_left (test y) (list_any test ys) passes
    | inr fails ↦ or_right (test y) (list_any test ys) (found_any test ys x (sym (cond-false (test y) (Some y) (find test ys) fails) ∙ is))
  ]

  pub none_found : (test : A → Bool) (xs : List A) → find test xs ≡ None → All (λ x. test x ≡ false) xs
  none_found test [] is = All-nil (λ x. test x ≡ false)
  none_found test (y ∷ ys) is = elim (cases_Bool (test y)) [
    | inl passes ↦ absurd (none-some y (sym is ∙ cond-true (test y) (Some y) (find test ys) passes))
    | inr fails ↦ All-cons (λ x. test x ≡ false) y ys fails (none_found test ys (sym (cond-false (test y) (Some y) (find test ys) fails) ∙ is))
  ]

  pub no_any : (test : A → Bool) (xs : List A) → list_any test xs ≡ false → All (λ x. test x ≡ false) xs
  no_any test [] is = All-nil (λ x. test x ≡ false)
  no_any test (y ∷ ys) is = let p = or_parts (test y) (list_any test ys) is in All-cons (λ x. test x ≡ false) y ys p.0 (no_any test ys p.1)

  pub all_optional : (P : A → Type 0) (o : Option A) → ((x : A) → o ≡ Some x → P x) → All P (option_to_list o)
  all_optional P None each = All-nil P
  all_optional P (Some x) each = All-cons P x [] (each x refl) (All-nil P)

  -- those that pass a test
  pub all_passed : (P Q : A → Type 0) (test : A → Bool) (xs : List A) → All P xs → ((x : A) → P x → test x ≡ true → Q x) → All Q (filter test xs)
  all_passed P Q test [] all each = All-nil Q
  all_passed P Q test (y ∷ ys) all each = elim (cases_Bool (test y)) [
    | inl passes ↦ subst (All Q) (sym (cond-true (test y) (y ∷ filter test ys) (filter test ys) passes)) (All-cons Q y (filter test ys) (each y (All-head P y ys all) passes) (all_passed P Q test ys (All-tail P y ys all) each))
    | inr fails ↦ subst (All Q) (sym (cond-false (test y) (y ∷ filter test ys) (filter test ys) fails)) (all_passed P Q test ys (All-tail P y ys all) each)
  ]
