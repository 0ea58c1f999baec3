-- The first object of a type in the innermost array that has one.
use Rattle.std.proofs.Common.{◌≡◌, ℕ, ◌+◌, ◌<◌, ◌≤◌, Bool, true, false, cond, ◌||◌, List, [], ◌∷◌, ◌++◌, length, take, get_or, map, refl, sym, ◌∙◌, ap, None, Some, append_assoc, append-nil}
use Rattle.std.specs.List.{find, list_any}
use Rattle.std.specs.Option.{option_or, option_map, unwrap_or, is_some}
use Rattle.std.specs.declared.option.Option.{Option}
use Rattle.std.proofs.lemmas.List.{map-append, take_more, take_all, flat_map_more}
use Rattle.std.proofs.lemmas.List.Folds.{find-append}
use Rattle.std.proofs.lemmas.Slice.Eq.{bytes_eq-Decides}
use Rattle.metadata_objects.specs.declared.generic.Generic.{Generic}
use Rattle.metadata_objects.specs.GenericList.{is_of_kind}
use Rattle.inheritance.specs.Effective.{innermost, firsts, all_objects, overriding, effective}
use Rattle.inheritance.proofs.Firsts.{find_firsts, any_firsts, firsts_push}

-- what is found passes
found_front : (p : Generic → Bool) (x : Generic) (b : Bool) (rest : Option Generic) (object : Generic) → p x ≡ b → (rest ≡ Some object → p object ≡ true) → cond b (Some x) rest ≡ Some object → p object ≡ true
found_front p x true rest object passes next is = let e : x ≡ object = cc in ap p (sym e) ∙ passes
found_front p x false rest object passes next is = next is

found_passes : (p : Generic → Bool) (xs : List Generic) (object : Generic) → find p xs ≡ Some object → p object ≡ true
found_passes p [] object is = absurd (cc)
found_passes p (x ∷ xs) object is = found_front p x (p x) (find p xs) object refl (found_passes p xs object) is

or_passes : (p : Generic → Bool) (first second : Option Generic) (object : Generic) → (first ≡ Some object → p object ≡ true) → (second ≡ Some object → p object ≡ true)
    → option_or first second ≡ Some object → p object ≡ true
or_passes p None second object h k is = k is
or_passes p (Some x) second object h k is = h is

innermost_passes : (kind : List ℕ) (arrays : List (List Generic)) (object : Generic) → innermost kind arrays ≡ Some object → is_of_kind kind object ≡ true
innermost_passes kind [] object is = absurd (cc)
innermost_passes kind (objects ∷ inner) object is =
    or_passes (is_of_kind kind) (innermost kind inner) (find (is_of_kind kind) objects) object (innermost_passes kind inner object) (found_passes (is_of_kind kind) objects object) is

kept_kind : (kind : List ℕ) (found : Option Generic) (object : Generic) → ((x : Generic) → found ≡ Some x → is_of_kind kind x ≡ true) → object.kind ≡ kind → (unwrap_or found object).kind ≡ kind
kept_kind kind None object passes is = is
kept_kind kind (Some x) object passes is = (bytes_eq-Decides x.kind kind).0 (passes x refl)

pub overriding_kind : (arrays : List (List Generic)) (object : Generic) → (overriding arrays object).kind ≡ object.kind
overriding_kind arrays object = kept_kind object.kind (innermost object.kind arrays) object (innermost_passes object.kind arrays) refl

-- the types of the objects that count are those of the objects in whose place they count
pub any_overriding : (kind : List ℕ) (arrays : List (List Generic)) (objects : List Generic)
    → list_any (is_of_kind kind) (map (overriding arrays) objects) ≡ list_any (is_of_kind kind) objects
any_overriding kind arrays [] = refl
any_overriding kind arrays (object ∷ objects) =
    let e = overriding_kind arrays object in let h = any_overriding kind arrays objects in rw (e, h) refl

-- ---- the list that is built, one object after the other

among : (arrays : List (List Generic)) (list done : List Generic) (kind : List ℕ) → list ≡ map (overriding arrays) (firsts done) → list_any (is_of_kind kind) list ≡ list_any (is_of_kind kind) done
among arrays list done kind is = ap (λ xs. list_any (is_of_kind kind) xs) is ∙ any_overriding kind arrays (firsts done) ∙ any_firsts kind done

next_done : (before objects : List Generic) (i : ℕ) (object : Generic) → i < length objects → object ≡ get_or objects i object
    → before ++ take (i + 1) objects ≡ (before ++ take i objects) ++ object ∷ []
next_done before objects i object below is = rw (take_more objects i object below, ← is) (sym (append_assoc before (take i objects) (object ∷ [])))

pub added : (arrays : List (List Generic)) (list before objects : List Generic) (i : ℕ) (object : Generic) → i < length objects → object ≡ get_or objects i object
    → list ≡ map (overriding arrays) (firsts (before ++ take i objects)) → list_any (is_of_kind object.kind) list ≡ false
    → list ++ overriding arrays object ∷ [] ≡ map (overriding arrays) (firsts (before ++ take (i + 1) objects))
added arrays list before objects i object below is so_far none =
    let done = before ++ take i objects in
    let fresh : list_any (is_of_kind object.kind) (before ++ take i objects) ≡ false = sym (among arrays list (before ++ take i objects) object.kind so_far) ∙ none in
    rw (next_done before objects i object below is, firsts_push (before ++ take i objects) object, fresh, map-append) (ap (λ xs. xs ++ overriding arrays object ∷ []) so_far)

pub kept : (arrays : List (List Generic)) (list before objects : List Generic) (i : ℕ) (object : Generic) → i < length objects → object ≡ get_or objects i object
    → list ≡ map (overriding arrays) (firsts (before ++ take i objects)) → list_any (is_of_kind object.kind) list ≡ true
    → list ≡ map (overriding arrays) (firsts (before ++ take (i + 1) objects))
kept arrays list before objects i object below is so_far some =
    let there : list_any (is_of_kind object.kind) (before ++ take i objects) ≡ true = sym (among arrays list (before ++ take i objects) object.kind so_far) ∙ some in
    rw (next_done before objects i object below is, firsts_push (before ++ take i objects) object, there, append-nil) so_far

-- ---- one array after the other

pub none_yet : (arrays : List (List Generic)) → map (overriding arrays) (firsts []) ≡ []
unfolding firsts
none_yet arrays = refl

pub array_more : (arrays : List (List Generic)) (i : ℕ) (objects : List Generic) → i < length arrays → objects ≡ get_or arrays i objects
    → all_objects (take (i + 1) arrays) ≡ all_objects (take i arrays) ++ objects
array_more arrays i objects below is = rw (take_more arrays i objects below, ← is) (sym (flat_map_more (λ (xs : List Generic). xs) [] (take i arrays) objects))

pub whole_effective : (arrays : List (List Generic)) (i : ℕ) → length arrays ≤ i → map (overriding arrays) (firsts (all_objects (take i arrays))) ≡ effective arrays
unfolding effective
whole_effective arrays i over = rw (take_all i arrays over) refl

-- ---- the effective object of a type

mapped : {A B : Type 0} (f : A → B) (b : Bool) (x : A) (rest : Option A) → cond b (Some (f x)) (option_map f rest) ≡ option_map f (cond b (Some x) rest)
mapped f true x rest = refl
mapped f false x rest = refl

find_overriding : (kind : List ℕ) (arrays : List (List Generic)) (objects : List Generic)
    → find (is_of_kind kind) (map (overriding arrays) objects) ≡ option_map (overriding arrays) (find (is_of_kind kind) objects)
find_overriding kind arrays [] = refl
find_overriding kind arrays (object ∷ objects) =
    let e = overriding_kind arrays object in let h = find_overriding kind arrays objects in
    rw (e, h) (mapped (overriding arrays) (is_of_kind kind object) object (find (is_of_kind kind) objects))

some_or : {A : Type 0} (a b : Option A) → is_some (option_or a b) ≡ (is_some a || is_some b)
some_or None b = refl
some_or (Some x) b = refl

either_way : (a b : Bool) → (a || b) ≡ (b || a)
either_way true true = refl
either_way true false = refl
either_way false true = refl
either_way false false = refl

-- there is an innermost object of a type where there is one at all
some_innermost : (kind : List ℕ) (arrays : List (List Generic)) → is_some (innermost kind arrays) ≡ is_some (find (is_of_kind kind) (all_objects arrays))
some_innermost kind [] = refl
some_innermost kind (objects ∷ inner) =
    some_or (innermost kind inner) (find (is_of_kind kind) objects) ∙ ap (λ b. b || is_some (find (is_of_kind kind) objects)) (some_innermost kind inner)
    ∙ either_way (is_some (find (is_of_kind kind) (all_objects inner))) (is_some (find (is_of_kind kind) objects))
    ∙ sym (ap is_some (find-append (is_of_kind kind) objects (all_objects inner)) ∙ some_or (find (is_of_kind kind) objects) (find (is_of_kind kind) (all_objects inner)))

in_its_place : (kind : List ℕ) (arrays : List (List Generic)) (found counts : Option Generic) → counts ≡ innermost kind arrays → is_some counts ≡ is_some found
    → ((object : Generic) → found ≡ Some object → object.kind ≡ kind) → option_map (overriding arrays) found ≡ counts
in_its_place kind arrays None None is same kinds = refl
in_its_place kind arrays None (Some x) is same kinds = absurd (cc)
in_its_place kind arrays (Some object) None is same kinds = absurd (cc)
in_its_place kind arrays (Some object) (Some x) is same kinds =
    ap (λ k. Some (unwrap_or (innermost k arrays) object)) (kinds object refl) ∙ ap (λ o. Some (unwrap_or o object)) (sym is)

pub effective_object : (arrays : List (List Generic)) (kind : List ℕ) → find (is_of_kind kind) (effective arrays) ≡ innermost kind arrays
unfolding effective
effective_object arrays kind =
    find_overriding kind arrays (firsts (all_objects arrays)) ∙ ap (λ o. option_map (overriding arrays) o) (find_firsts kind (all_objects arrays))
    ∙ in_its_place kind arrays (find (is_of_kind kind) (all_objects arrays)) (innermost kind arrays) refl (some_innermost kind arrays)
    (λ object is. (bytes_eq-Decides object.kind kind).0 (found_passes (is_of_kind kind) (all_objects arrays) object is))

none_inside : (kind : List ℕ) (inner : List (List Generic)) (found : Option Generic) → found ≡ innermost kind inner → is_some found ≡ false → found ≡ None
none_inside kind inner None is none = refl
none_inside kind inner (Some x) is none = absurd (cc)

over_outer : (kind : List ℕ) (outer : List (List Generic)) (objects : List Generic) (inner : List (List Generic)) (object : Generic)
    → innermost kind (objects ∷ inner) ≡ Some object → innermost kind (outer ++ objects ∷ inner) ≡ Some object
over_outer kind [] objects inner object is = is
over_outer kind (first ∷ outer) objects inner object is = ap (λ o. option_or o (find (is_of_kind kind) first)) (over_outer kind outer objects inner object is)

pub deepest : (outer inner : List (List Generic)) (objects : List Generic) (kind : List ℕ) (object : Generic)
    → find (is_of_kind kind) objects ≡ Some object → find (is_of_kind kind) (all_objects inner) ≡ None → find (is_of_kind kind) (effective (outer ++ objects ∷ inner)) ≡ Some object
deepest outer inner objects kind object first none =
    let inside = none_inside kind inner (innermost kind inner) refl (some_innermost kind inner ∙ ap is_some none) in
    effective_object (outer ++ objects ∷ inner) kind ∙ over_outer kind outer objects inner object (ap (λ o. option_or o (find (is_of_kind kind) objects)) inside ∙ first)
