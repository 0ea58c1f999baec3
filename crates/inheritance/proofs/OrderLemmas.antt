-- The effective objects have types of their own, in the order of their first appearance from outside.
use Rattle.std.proofs.Common.{◌≡◌, ℕ, ◌+◌, ◌<◌, suc, Bool, true, false, cond, not, ◌||◌, List, [], ◌∷◌, ◌++◌, map, All, AllPairs, refl, sym, ◌∙◌, ap, subst, arith}
use Rattle.std.specs.List.{list_any, position_or_len}
use Rattle.std.proofs.lemmas.Bool.{cond-true, cond-false}
use Rattle.std.proofs.lemmas.List.Elements.{All-cons}
use Rattle.std.proofs.lemmas.List.Kept.{AllPairs-cons}
use Rattle.std.proofs.lemmas.List.Folds.{list_any-append}
use Rattle.std.proofs.lemmas.Slice.Eq.{bytes_eq-Decides}
use Rattle.metadata_objects.specs.declared.generic.Generic.{Generic}
use Rattle.metadata_objects.specs.GenericList.{is_of_kind}
use Rattle.inheritance.specs.Effective.{firsts_after, firsts, all_objects, overriding, effective, first_place, AreOfTheirOwnTypes, AreInOrderFromOutside}
use Rattle.inheritance.proofs.Firsts.{any_firsts}
use Rattle.inheritance.proofs.Innermost.{any_overriding, overriding_kind}

-- ---- facts of each element and of each two

nothing_all : {X : Type 0} (P : X → Type 0) → All P []
nothing_all P k d below = absurd (omega arith)

nothing_pairs : {X : Type 0} (R : X → X → Type 0) → AllPairs R []
nothing_pairs R i j d before below = absurd (omega arith)

map_all : {X Y : Type 0} (f : X → Y) (P : Y → Type 0) (xs : List X) → All (λ x. P (f x)) xs → All P (map f xs)
map_all f P [] all = nothing_all P
map_all f P (x ∷ xs) all = All-cons P (f x) (map f xs) (all 0 x (omega arith)) (map_all f P xs (λ k d below. all (suc k) d (omega arith)))

map_pairs : {X Y : Type 0} (f : X → Y) (R : Y → Y → Type 0) (xs : List X) → AllPairs (λ x y. R (f x) (f y)) xs → AllPairs R (map f xs)
map_pairs f R [] pairs = nothing_pairs R
map_pairs f R (x ∷ xs) pairs =
    AllPairs-cons R (f x) (map f xs) (map_all f (R (f x)) xs (λ k d below. pairs 0 (suc k) d (omega arith) (omega arith)))
    (map_pairs f R xs (λ i j d before below. pairs (suc i) (suc j) d (omega arith) (omega arith)))

-- ---- the first objects of each type

among_parts : (kind : List ℕ) (before : List Generic) (object : Generic) → list_any (is_of_kind kind) (before ++ object ∷ []) ≡ false
    → (list_any (is_of_kind kind) before ≡ false) × (is_of_kind kind object ≡ false)
among_parts kind before object none = neither _ _ (sym (list_any-append (is_of_kind kind) before (object ∷ [])) ∙ none)
  where
    neither : (a b : Bool) → (a || (b || false)) ≡ false → (a ≡ false) × (b ≡ false)
    neither true b is = absurd (cc)
    neither false true is = absurd (cc)
    neither false false is = (refl, refl)

-- none of those left is of a type that stands before
IsNew : List Generic → Generic → Type 0
IsNew before object = list_any (is_of_kind object.kind) before ≡ false

new_cond : (b : Bool) (before : List Generic) (object : Generic) (rest : List Generic) → list_any (is_of_kind object.kind) before ≡ b → All (IsNew before) rest → All (IsNew before) (cond b rest (object ∷ rest))
unfolding IsNew
new_cond true before object rest is all = all
new_cond false before object rest is all = All-cons (IsNew before) object rest is all

all_new : (before objects : List Generic) → All (IsNew before) (firsts_after before objects)
unfolding IsNew
all_new before [] = nothing_all (IsNew before)
all_new before (object ∷ objects) =
    new_cond (list_any (is_of_kind object.kind) before) before object (firsts_after (before ++ object ∷ []) objects) refl
    (λ k d below. (among_parts _ before object (all_new (before ++ object ∷ []) objects k d below)).0)

-- ---- their places

Place : List ℕ → List Generic → ℕ
Place kind objects = position_or_len (is_of_kind kind) objects

place_later : (kind : List ℕ) (object : Generic) (objects : List Generic) → is_of_kind kind object ≡ false → Place kind (object ∷ objects) ≡ 1 + Place kind objects
unfolding Place
place_later kind object objects is = cond-true _ _ _ (ap not is)

place_here : (kind : List ℕ) (object : Generic) (objects : List Generic) → is_of_kind kind object ≡ true → Place kind (object ∷ objects) ≡ 0
unfolding Place
place_here kind object objects is = cond-false _ _ _ (ap not is)

-- the type of the first appears before that of the second
Before : List Generic → Generic → Generic → Type 0
Before objects one other = Place one.kind objects < Place other.kind objects

both_later : (m n k l : ℕ) → k ≡ 1 + m → l ≡ 1 + n → m < n → k < l
both_later m n k l first second less = omega arith

pairs_later : (object : Generic) (objects firsts : List Generic) → All (λ x. is_of_kind x.kind object ≡ false) firsts → AllPairs (Before objects) firsts → AllPairs (Before (object ∷ objects)) firsts
unfolding Before
pairs_later object objects firsts others pairs = λ i j d before below.
    both_later _ _ _ _ (place_later _ object objects (others i d (omega arith))) (place_later _ object objects (others j d below)) (pairs i j d before below)

above_zero : (n k l : ℕ) → k ≡ 0 → l ≡ 1 + n → k < l
above_zero n k l first second = omega arith

pairs_cond : (b : Bool) (object : Generic) (objects firsts : List Generic) → All (λ x. is_of_kind x.kind object ≡ false) firsts → AllPairs (Before objects) firsts
    → AllPairs (Before (object ∷ objects)) (cond b firsts (object ∷ firsts))
unfolding Before
pairs_cond true object objects firsts others pairs = pairs_later object objects firsts others pairs
pairs_cond false object objects firsts others pairs =
    AllPairs-cons (Before (object ∷ objects)) object firsts
    (λ k d below. above_zero _ _ _ (place_here object.kind object objects ((bytes_eq-Decides object.kind object.kind).1 refl)) (place_later _ object objects (others k d below)))
    (pairs_later object objects firsts others pairs)

in_place : (before objects : List Generic) → AllPairs (Before objects) (firsts_after before objects)
unfolding IsNew
in_place before [] = nothing_pairs (Before [])
in_place before (object ∷ objects) =
    pairs_cond (list_any (is_of_kind object.kind) before) object objects (firsts_after (before ++ object ∷ []) objects)
    (λ k d below. (among_parts _ before object (all_new (before ++ object ∷ []) objects k d below)).1)
    (in_place (before ++ object ∷ []) objects)

same_places : (place : List ℕ → ℕ) (a b c d : List ℕ) → c ≡ a → d ≡ b → place a < place b → place c < place d
same_places place a b c d first second less = subst (λ (k : List ℕ). place k < place d) (sym first) (subst (λ (k : List ℕ). place a < place k) (sym second) less)

-- ---- the laws

pub in_order : (arrays : List (List Generic)) → AreInOrderFromOutside arrays (effective arrays)
unfolding Place Before effective firsts
in_order arrays =
    map_pairs (overriding arrays) (λ one other. first_place arrays one.kind < first_place arrays other.kind) (firsts (all_objects arrays))
    (λ i j d before below. same_places (first_place arrays) _ _ _ _ (overriding_kind arrays _) (overriding_kind arrays _) (in_place [] (all_objects arrays) i j d before below))

pub own_types : (arrays : List (List Generic)) → AreOfTheirOwnTypes (effective arrays)
own_types arrays = λ i j d before below same. omega (arith, ap (first_place arrays) same, in_order arrays i j d before below)

pub each_type : (arrays : List (List Generic)) (kind : List ℕ) → list_any (is_of_kind kind) (effective arrays) ≡ list_any (is_of_kind kind) (all_objects arrays)
unfolding effective
each_type arrays kind = any_overriding kind arrays (firsts (all_objects arrays)) ∙ any_firsts kind (all_objects arrays)
