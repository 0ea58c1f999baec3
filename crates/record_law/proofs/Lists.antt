-- What is true of a list that is made of others, by places and in pairs.
use Rattle.std.proofs.Common.{◌≡◌, ℕ, suc, zero, Bool, true, false, not, List, [], ◌∷◌, map, refl, ap, ◌∙◌, subst, None, Some, Option, arith}
use Rattle.std.specs.List.{All, AllPairs, Contains, filter, find, slice_get}
use Rattle.std.specs.Option.{option_map}
use Rattle.std.proofs.lemmas.Bool.{both_ways, cond-true, cond-false, not_from_false}
use Rattle.std.proofs.lemmas.List.Elements.{All-cons, All-head, All-map, All-nil, All-tail, All-weaker}
use Rattle.std.proofs.lemmas.List.Kept.{AllPairs-cons}
use Rattle.delivery_law.proofs.LogLaw.{first_pairs, rest_pairs}
use Rattle.std.proofs.lemmas.Option.{get_or_from_slice_get, none-some, same_Some, slice_get_within}

module _ {A : Type 0} where
  -- what holds at each place holds of each element
  pub all_places : (P : A → Type 0) (xs : List A) → ((k : ℕ) (x : A) → slice_get xs k ≡ Some x → P x) → All P xs
  all_places P [] each = All-nil P
  all_places P (x ∷ xs) each = All-cons P x xs (each 0 x refl) (all_places P xs (λ k y is. each (suc k) y is))

  -- where a change of both keeps the relation
  pub pairs_map : (R : A → A → Type 0) (f : A → A) (xs : List A) → ((x y : A) → R x y → R (f x) (f y)) → AllPairs R xs → AllPairs R (map f xs)
  pairs_map R f [] keeps pairs = λ i j d order below. absurd (omega (arith, below))
  pairs_map R f (x ∷ xs) keeps pairs = AllPairs-cons R (f x) (map f xs)
      (All-map (R (f x)) f xs (All-weaker (R x) (λ y. R (f x) (f y)) (keeps x) xs (first_pairs R x xs pairs)))
      (pairs_map R f xs keeps (rest_pairs R x xs pairs))

  pub contains_map : {B : Type 0} (f : A → B) (xs : List A) (x : A) → Contains xs x → Contains (map f xs) (f x)
  contains_map f [] x (k, low, is) = absurd (omega (arith, low))
  contains_map {B} f (y ∷ ys) x (zero, low, is) = subst (λ (z : A). Contains (f y ∷ map f ys) (f z)) is (0, omega arith, refl)
  contains_map {B} f (y ∷ ys) x (suc k, low, is) =
      let rest : Contains (map f ys) (f x) = contains_map f ys x (k, omega (arith, low), is) in
      (suc rest.0, (let low = rest.1 in omega (arith, low)), rest.2)

  -- what was found at a place of a changed list
  pub got_map : (f : A → A) (o : Option A) (y : A) (P : Type 0) → option_map f o ≡ Some y → ((x : A) → o ≡ Some x → f x ≡ y → P) → P
  got_map f None y P is each = absurd (none-some y is)
  got_map f (Some x) y P is each = each x refl (same_Some (f x) y is)

  pub none_passes : (test : A → Bool) (xs : List A) → All (λ x. test x ≡ false) xs → find test xs ≡ None
  none_passes test [] all = refl
  none_passes test (x ∷ xs) all = cond-false (test x) (Some x) (find test xs) (All-head (λ x. test x ≡ false) x xs all) ∙ none_passes test xs (All-tail (λ x. test x ≡ false) x xs all)

  -- where none fails a test, all pass
  pub all_stay : (test : A → Bool) (xs : List A) → All (λ x. test x ≡ false) xs → filter (λ x. not (test x)) xs ≡ xs
  all_stay test [] all = refl
  all_stay test (x ∷ xs) all = cond-true (not (test x)) (x ∷ filter (λ y. not (test y)) xs) (filter (λ y. not (test y)) xs) (not_from_false (test x) (All-head (λ y. test y ≡ false) x xs all))
      ∙ ap (λ k. x ∷ k) (all_stay test xs (All-tail (λ y. test y ≡ false) x xs all))

  pub contains_got : (xs : List A) (k : ℕ) (x : A) → slice_get xs k ≡ Some x → Contains xs x
  contains_got xs k x is = (k, slice_get_within xs k x is, get_or_from_slice_get xs k x x is)

  abbrev is_none : List A → Bool
  is_none [] = true
  is_none (x ∷ xs) = false

  pub not_none : (x : A) (xs : List A) → x ∷ xs ≡ [] → ⊥
  not_none x xs is = both_ways false refl (ap is_none is)
