-- Lists whose items are seen as others.
use Rattle.std.proofs.Common.{◌≡◌, ℕ, ◌+◌, ◌≤◌, arith, length, length-append, Bool, true, false, cond, not, List, [], ◌∷◌, map, None, Some, refl, sym, ap, ◌∙◌}
use Rattle.std.specs.List.{filter, find, sum_by}
use Rattle.std.specs.Option.{is_some, option_map, option_to_list}
use Rattle.std.specs.declared.option.Option.{Option}
use Rattle.std.proofs.lemmas.List.Sums.{sum-map}
use Rattle.std.specs.List.{sum}
use Rattle.rows.specs.Row.{IsTakenOut}
use Rattle.std.proofs.lemmas.Option.{none-some}

module _ {A B : Type 0} (f : A → B) where
  pub find-map : (p : B → Bool) (xs : List A) → find p (map f xs) ≡ option_map f (find (λ x. p (f x)) xs)
  find-map p [] = refl
  find-map p (x ∷ xs) = elim (p (f x)) as (λ t. cond t (Some (f x)) (find p (map f xs)) ≡ option_map f (cond t (Some x) (find (λ y. p (f y)) xs))) [
    | true ↦ refl
    | false ↦ find-map p xs
  ]

  pub filter-map : (p : B → Bool) (xs : List A) → filter p (map f xs) ≡ map f (filter (λ x. p (f x)) xs)
  filter-map p [] = refl
  filter-map p (x ∷ xs) = elim (p (f x)) as (λ t. cond t (f x ∷ filter p (map f xs)) (filter p (map f xs)) ≡ map f (cond t (x ∷ filter (λ y. p (f y)) xs) (filter (λ y. p (f y)) xs))) [
    | true ↦ ap (λ ys. f x ∷ ys) (filter-map p xs)
    | false ↦ filter-map p xs
  ]

  pub some_map : (o : Option A) → is_some (option_map f o) ≡ is_some o
  some_map None = refl
  some_map (Some x) = refl

  -- whether one of them is found, told from what is found before they are seen as others
  pub found_map : (p : B → Bool) (xs : List A) (o : Option A) → o ≡ find (λ x. p (f x)) xs → is_some o ≡ is_some (find p (map f xs))
  found_map p xs o is = ap is_some is ∙ sym (some_map (find (λ x. p (f x)) xs)) ∙ ap is_some (sym (find-map p xs))

  pub option_to_list-map : (o : Option A) → option_to_list (option_map f o) ≡ map f (option_to_list o)
  option_to_list-map None = refl
  option_to_list-map (Some x) = refl

  map_map : (g : B → ℕ) (xs : List A) → map g (map f xs) ≡ map (λ x. g (f x)) xs
  map_map g [] = refl
  map_map g (x ∷ xs) = ap (λ ys. g (f x) ∷ ys) (map_map g xs)

  pub sum_by-map : (g : B → ℕ) (xs : List A) → sum_by g (map f xs) ≡ sum_by (λ x. g (f x)) xs
  sum_by-map g xs = sym (sum-map g (map f xs)) ∙ ap sum (map_map g xs) ∙ sum-map (λ x. g (f x)) xs

pub option_map_map : {A B C : Type 0} (f : A → B) (g : B → C) (o : Option A) → option_map (λ x. g (f x)) o ≡ option_map g (option_map f o)
option_map_map f g None = refl
option_map_map f g (Some x) = refl

pub filter_shorter : {A : Type 0} (p : A → Bool) (xs : List A) → length (filter p xs) ≤ length xs
filter_shorter p [] = omega arith
filter_shorter p (x ∷ xs) =
    let rest = filter_shorter p xs in
    elim (p x) as (λ t. length (cond t (x ∷ filter p xs) (filter p xs)) ≤ length (x ∷ xs)) [ true ↦ omega (arith, rest) | false ↦ omega (arith, rest) ]

-- where none passes, the others are all
pub filter_same : {A : Type 0} (p : A → Bool) (xs : List A) → find p xs ≡ None → filter (λ x. not (p x)) xs ≡ xs
filter_same p [] none = refl
filter_same p (x ∷ xs) none = same_by (p x) none (filter_same p xs)
  where
    same_by : (t : Bool) → cond t (Some x) (find p xs) ≡ None → (find p xs ≡ None → filter (λ y. not (p y)) xs ≡ xs) → cond (not t) (x ∷ filter (λ y. not (p y)) xs) (filter (λ y. not (p y)) xs) ≡ x ∷ xs
    same_by true is rest = absurd (none-some x (sym is))
    same_by false is rest = ap (λ ys. x ∷ ys) (rest is)

pub filter_few : {A : Type 0} (p : A → Bool) (xs : List A) (a b : ℕ) → a + length xs ≤ b → a + length (filter p xs) ≤ b
filter_few p xs a b few = let shorter = filter_shorter p xs in omega (arith, shorter, few)

-- where one was taken out, there is one less
pub taken_length : {A : Type 0} (item : A) (old new : List A) → IsTakenOut (Some item) old new → length new + 1 ≡ length old
taken_length item old new out =
    let rest = out.1 in
    let o = ap length rest.1.0 in
    let n = ap length rest.1.1 in
    omega (arith, o, n, length-append out.0 (item ∷ rest.0), length-append out.0 rest.0)
