-- Doors in memory.
use Rattle.std.proofs.Common.{◌≡◌, suc, ◌<◌, List, [], ◌∷◌, ◌++◌, All, length, length-append, reverse, refl, ◌∙◌, ap, subst, arith}
use Rattle.std.proofs.lemmas.List.{reverse-append, length-reverse}

pub shorter : {A : Type 0} (xs ys : List A) (x : A) → xs ≡ ys ++ x ∷ [] → length ys < length xs
shorter xs ys x is = let e : length xs ≡ length (ys ++ x ∷ []) = ap length is in omega (arith, e, length-append ys (x ∷ []))

pub none_left : {A : Type 0} (xs : List A) → length xs ≡ 0 → reverse xs ≡ []
none_left [] none = refl
none_left (x ∷ xs) none = absurd (omega (arith, none))

pub some_left : {A : Type 0} (xs : List A) → 0 < length xs → 0 < length (reverse xs)
some_left xs some = rw (length-reverse xs) some

-- the last one comes first
pub next_left : {A : Type 0} (xs ys : List A) (x : A) → xs ≡ ys ++ x ∷ [] → reverse xs ≡ x ∷ reverse ys
next_left xs ys x is = ap reverse is ∙ reverse-append ys (x ∷ [])

-- what holds of all holds of the first and of the rest
pub first_of : {A : Type 0} (P : A → Type 0) (xs ys : List A) (x : A) → All P xs → xs ≡ x ∷ ys → P x
first_of P xs ys x all is = subst (All P) is all 0 x (omega arith)

pub rest_all : {A : Type 0} (P : A → Type 0) (xs ys : List A) (x : A) → All P xs → xs ≡ x ∷ ys → All P ys
rest_all P xs ys x all is = λ k d within. subst (All P) is all (suc k) d (omega (arith, within))
