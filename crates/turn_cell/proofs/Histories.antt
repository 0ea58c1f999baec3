-- Facts on lists and on histories.
use Rattle.std.proofs.Common.{◌≡◌, ◌≢◌, ℕ, zero, suc, ◌+◌, ◌<◌, ◌≤◌, ◌⊎◌, Bool, true, false, cond, ltb, List, [], ◌∷◌, ◌++◌, length, get_or, All, Contains, sym, refl, ap, ◌∙◌, subst, inl, inr, ⊎_elim, append_assoc, append-nil, ltb-true, ltb-false, add-one, arith}
use Rattle.std.proofs.lemmas.List.Elements.{All-append, All-nil, All-cons, All-head, All-tail, Contains-append_cases}
use mathlib.Core.Logic.{dite}
use mathlib.Core.Option.{some, some-injective, some-ne-none}
use native.Mathlib.Decide.{ℕ_discrete}
use lib.ListN.{get_elem?}
use Rattle.turn_cell.specs.History.{numbers_from, NoneOf, FollowedByOthers, longer}

module _ {A : Type 0} where
  pub all_left : (P : A → Type 0) (xs ys : List A) → All P (xs ++ ys) → All P xs
  all_left P [] ys h = All-nil P
  all_left P (x ∷ xs) ys h = All-cons P x xs (All-head P x (xs ++ ys) h) (all_left P xs ys (All-tail P x (xs ++ ys) h))

  pub all_right : (P : A → Type 0) (xs ys : List A) → All P (xs ++ ys) → All P ys
  all_right P [] ys h = h
  all_right P (x ∷ xs) ys h = all_right P xs ys (All-tail P x (xs ++ ys) h)

  -- of two beginnings of one list the shorter begins the longer
  pub between : (a o b p : List A) → a ++ o ≡ b ++ p → length a ≤ length b → (mid : List A) × (b ≡ a ++ mid) × (o ≡ mid ++ p)
  between [] o b p e le = (b, refl, e)
  between (x ∷ a) o [] p e le = absurd (omega arith)
  between (x ∷ a) o (y ∷ b) p e le =
      let rest : a ++ o ≡ b ++ p = cc in
      let same : y ≡ x = cc in
      let r = between a o b p rest (omega arith) in
      (r.0, (λ i. same i ∷ r.1 i), r.2)

  pub inside : (l : List A) (i : ℕ) (a : A) → get_elem? l i ≡ some a → i < length l
  inside [] i a e = absurd (some-ne-none a (sym e))
  inside (x ∷ xs) zero a e = omega arith
  inside (x ∷ xs) (suc i) a e = let h = inside xs i a e in omega arith

  -- an index has one element
  pub same_at : (l : List A) (i j : ℕ) (a b : A) → get_elem? l i ≡ some a → get_elem? l j ≡ some b → i ≡ j → a ≡ b
  same_at l i j a b p q e = some-injective a b (sym p ∙ (ap (λ k. get_elem? l k) e ∙ q))

  pub snoc_cases : (l : List A) (a b : A) (j : ℕ) → get_elem? (l ++ a ∷ []) j ≡ some b → (get_elem? l j ≡ some b) ⊎ ((j ≡ length l) × (a ≡ b))
  snoc_cases [] a b zero e = inr (refl, some-injective a b e)
  snoc_cases [] a b (suc j) e = absurd (some-ne-none b (sym e))
  snoc_cases (x ∷ xs) a b zero e = inl e
  snoc_cases (x ∷ xs) a b (suc j) e = ⊎_elim (λ h. inl h) (λ h. inr (ap suc h.0, h.1)) (snoc_cases xs a b j e)

  pub head_in : (x : A) (xs : List A) → Contains (x ∷ xs) x
  head_in x xs = (0, omega arith, refl)

  pub tail_in : (x : A) (xs : List A) (y : A) → Contains xs y → Contains (x ∷ xs) y
  tail_in x xs y c = let lt = c.1 in (suc c.0, omega arith, c.2)

  pub cons_cases : (x : A) (xs : List A) (y : A) → Contains (x ∷ xs) y → (x ≡ y) ⊎ Contains xs y
  cons_cases x xs y (zero, lt, e) = inl e
  cons_cases x xs y (suc k, lt, e) = inr (k, omega arith, e)

  pub none_in : (y : A) → Contains [] y → ⊥
  none_in y c = let lt = c.1 in omega arith

-- the function with another value at one place
pub update : (f : ℕ → ℕ) (k a : ℕ) → (g : ℕ → ℕ) × (g k ≡ a) × ((x : ℕ) → x ≢ k → g x ≡ f x)
update f k a = (
  (λ x. dite (ℕ_discrete x k) (λ _. a) (λ _. f x)),
  (elim (ℕ_discrete k k) as (λ d. dite d (λ _. a) (λ _. f k) ≡ a) [ yes e ↦ refl | no ne ↦ absurd (ne refl) ]),
  (λ x other. elim (ℕ_discrete x k) as (λ d. dite d (λ _. a) (λ _. f x) ≡ f x) [ yes e ↦ absurd (other e) | no ne ↦ refl ]),
)

-- the function with a for each b
pub replaced : (f : ℕ → ℕ) (b a : ℕ) → (g : ℕ → ℕ) × ((x : ℕ) → f x ≡ b → g x ≡ a) × ((x : ℕ) → f x ≢ b → g x ≡ f x)
replaced f b a = (
  (λ x. dite (ℕ_discrete (f x) b) (λ _. a) (λ _. f x)),
  (λ x is. elim (ℕ_discrete (f x) b) as (λ d. dite d (λ _. a) (λ _. f x) ≡ a) [ yes e ↦ refl | no ne ↦ absurd (ne is) ]),
  (λ x other. elim (ℕ_discrete (f x) b) as (λ d. dite d (λ _. a) (λ _. f x) ≡ f x) [ yes e ↦ absurd (other e) | no ne ↦ refl ]),
)

pub numbers_from-at_least : (a m x : ℕ) → Contains (numbers_from a m) x → a ≤ x
numbers_from-at_least a zero x c = absurd (none_in x c)
numbers_from-at_least a (suc m) x c = ⊎_elim (λ e. omega arith) (λ d. let h = numbers_from-at_least (a + 1) m x d in omega arith) (cons_cases a (numbers_from (a + 1) m) x c)

pub numbers_from-below : (a m x : ℕ) → Contains (numbers_from a m) x → x < a + m
numbers_from-below a zero x c = absurd (none_in x c)
numbers_from-below a (suc m) x c = ⊎_elim (λ e. omega arith) (λ d. let h = numbers_from-below (a + 1) m x d in omega arith) (cons_cases a (numbers_from (a + 1) m) x c)

pub numbers_from-has : (a m x : ℕ) → a ≤ x → x < a + m → Contains (numbers_from a m) x
numbers_from-has a zero x le lt = absurd (omega arith)
numbers_from-has a (suc m) x le lt = dite (ℕ_discrete a x) (λ e. subst (λ y. Contains (a ∷ numbers_from (a + 1) m) y) e (head_in a (numbers_from (a + 1) m)))
    (λ ne. tail_in a (numbers_from (a + 1) m) x (numbers_from-has (a + 1) m x (omega arith) (omega arith)))

pub numbers_from-push : (a m : ℕ) → numbers_from a (m + 1) ≡ numbers_from a m ++ (a + m) ∷ []
numbers_from-push a zero = ap (λ x. x ∷ []) (omega arith)
numbers_from-push a (suc m) =
    rw (add-one (suc m)) (λ i. a ∷ ((ap (λ k. numbers_from (a + 1) k) (sym (add-one m)) ∙ (numbers_from-push (a + 1) m ∙ ap (λ x. numbers_from (a + 1) m ++ x ∷ []) (let e : (a + 1) + m ≡ a + suc m = omega arith in e))) i))

pub length-numbers_from : (a m : ℕ) → length (numbers_from a m) ≡ m
length-numbers_from a zero = refl
length-numbers_from a (suc m) = let h = length-numbers_from (a + 1) m in omega arith

abbrev H : Type 0 → Type 0
H E = List (ℕ × E)

module _ {E : Type 0} where
  pub none_of_both : (ms ns : List ℕ) (es : H E) → NoneOf ms es → NoneOf ns es → NoneOf (ms ++ ns) es
  none_of_both ms ns es p q k d lt c = ⊎_elim (λ h. p k d lt h) (λ h. q k d lt h) (Contains-append_cases ms ns (get_or es k d).0 c)

  pub others_none : (numbers : List ℕ) (a : H E) → FollowedByOthers numbers a a
  others_none numbers a = ([], sym (append-nil a), All-nil (λ (e : ℕ × E). ¬ (Contains numbers e.0)))

  pub others_more : (numbers : List ℕ) (a b es : H E) → FollowedByOthers numbers a b → NoneOf numbers es → FollowedByOthers numbers a (b ++ es)
  others_more numbers a b es f none = (f.0 ++ es, ap (λ z. z ++ es) f.1 ∙ append_assoc a f.0 es, All-append (λ (e : ℕ × E). ¬ (Contains numbers e.0)) f.0 es f.2 none)

  -- of two beginnings of one history, the shorter is followed by others in the longer, and in the history past it
  shorter : (ms : List ℕ) (a b log rest : H E) → FollowedByOthers ms a log → log ≡ b ++ rest → length a ≤ length b → FollowedByOthers ms a b × NoneOf ms rest
  shorter ms a b log rest f e le =
      let m = between a f.0 b rest (sym f.1 ∙ e) le in
      let none : NoneOf ms (m.0 ++ rest) = subst (NoneOf ms) m.2 f.2 in
      ((m.0, m.1, all_left (λ (x : ℕ × E). ¬ (Contains ms x.0)) m.0 rest none), all_right (λ (x : ℕ × E). ¬ (Contains ms x.0)) m.0 rest none)

  longer_by : (ms ns : List ℕ) (a b log : H E) (t : Bool) → ltb (length a) (length b) ≡ t → FollowedByOthers ms a log → FollowedByOthers ns b log
      → FollowedByOthers ms a (cond t b a) × FollowedByOthers ns b (cond t b a) × FollowedByOthers (ms ++ ns) (cond t b a) log
  longer_by ms ns a b log true is f g =
      let lt : length a < length b = ltb-true (length a) (length b) is in
      let s = shorter ms a b log g.0 f g.1 (omega arith) in
      (s.0, others_none ns b, (g.0, g.1, none_of_both ms ns g.0 s.1 g.2))
  longer_by ms ns a b log false is f g =
      let le : length b ≤ length a = ltb-false (length a) (length b) is in
      let s = shorter ns b a log f.0 g f.1 le in
      (others_none ms a, s.0, (f.0, f.1, none_of_both ms ns f.0 f.2 s.1))

  -- what follows the longer of two beginnings of one history
  pub longer_of : (ms ns : List ℕ) (a b log : H E) → FollowedByOthers ms a log → FollowedByOthers ns b log
      → FollowedByOthers ms a (longer a b) × FollowedByOthers ns b (longer a b) × FollowedByOthers (ms ++ ns) (longer a b) log
  longer_of ms ns a b log f g = longer_by ms ns a b log (ltb (length a) (length b)) refl f g

  longer_cases_by : (a b : H E) (t : Bool) → (cond t b a ≡ a) ⊎ (cond t b a ≡ b)
  longer_cases_by a b true = inr refl
  longer_cases_by a b false = inl refl

  pub longer_cases : (a b : H E) → (longer a b ≡ a) ⊎ (longer a b ≡ b)
  longer_cases a b = longer_cases_by a b (ltb (length a) (length b))
