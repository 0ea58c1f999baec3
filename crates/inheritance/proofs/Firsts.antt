-- The first object of each type.
use Rattle.std.proofs.Common.{◌≡◌, ℕ, Bool, true, false, cond, ◌||◌, List, [], ◌∷◌, ◌++◌, refl, sym, ◌∙◌, ap, None, Some, append_assoc, append-nil}
use Rattle.std.specs.List.{find, list_any}
use Rattle.std.specs.declared.option.Option.{Option}
use Rattle.std.proofs.Math.Bool.{or-false}
use Rattle.std.proofs.lemmas.Bool.{cond-true, cond-false, false≢true, true≢false}
use Rattle.std.proofs.lemmas.List.Folds.{list_any-append}
use Rattle.std.proofs.lemmas.Slice.Eq.{bytes_eq-Decides}
use Rattle.metadata_objects.specs.declared.generic.Generic.{Generic}
use Rattle.metadata_objects.specs.GenericList.{is_of_kind}
use Rattle.inheritance.specs.Effective.{firsts_after, firsts}

-- a type that is equal to another is among the same objects
same_among : (kind : List ℕ) (object : Generic) (before : List Generic) → is_of_kind kind object ≡ true → list_any (is_of_kind object.kind) before ≡ list_any (is_of_kind kind) before
same_among kind object before same = ap (λ k. list_any (is_of_kind k) before) ((bytes_eq-Decides object.kind kind).0 same)

any_push : (kind : List ℕ) (before : List Generic) (object : Generic) → list_any (is_of_kind kind) (before ++ object ∷ []) ≡ (list_any (is_of_kind kind) before || is_of_kind kind object)
any_push kind before object = list_any-append (is_of_kind kind) before (object ∷ []) ∙ ap (λ b. list_any (is_of_kind kind) before || b) (or-false (is_of_kind kind object))

-- ---- the first of a type among all objects is the first among the firsts

kept_front : (p : Generic → Bool) (object : Generic) (rest : List Generic) (found : Option Generic) (among left_out passes : Bool)
    → p object ≡ passes → (passes ≡ true → left_out ≡ among) → find p rest ≡ cond (among || passes) None found
    → find p (cond left_out rest (object ∷ rest)) ≡ cond among None (cond passes (Some object) found)
kept_front p object rest found true true true is same h = h
kept_front p object rest found true true false is same h = h
kept_front p object rest found true false true is same h = absurd (false≢true (same refl))
kept_front p object rest found true false false is same h = cond-false _ _ _ is ∙ h
kept_front p object rest found false true true is same h = absurd (true≢false (same refl))
kept_front p object rest found false true false is same h = h
kept_front p object rest found false false true is same h = cond-true _ _ _ is
kept_front p object rest found false false false is same h = cond-false _ _ _ is ∙ h

none_either : {A : Type 0} (b : Bool) → None ≡ cond {A = Option A} b None None
none_either true = refl
none_either false = refl

first_after : (kind : List ℕ) (before objects : List Generic)
    → find (is_of_kind kind) (firsts_after before objects) ≡ cond (list_any (is_of_kind kind) before) None (find (is_of_kind kind) objects)
first_after kind before [] = none_either (list_any (is_of_kind kind) before)
first_after kind before (object ∷ objects) =
    kept_front (is_of_kind kind) object (firsts_after (before ++ object ∷ []) objects) (find (is_of_kind kind) objects) (list_any (is_of_kind kind) before)
    (list_any (is_of_kind object.kind) before) (is_of_kind kind object) refl (same_among kind object before)
    (first_after kind (before ++ object ∷ []) objects ∙ ap (λ b. cond b None (find (is_of_kind kind) objects)) (any_push kind before object))

pub find_firsts : (kind : List ℕ) (objects : List Generic) → find (is_of_kind kind) (firsts objects) ≡ find (is_of_kind kind) objects
unfolding firsts
find_firsts kind objects = first_after kind [] objects

-- ---- a type is among the firsts where it is among all objects

kept_any : (left_out among passes rest all : Bool) → (passes ≡ true → left_out ≡ among) → (rest || (among || passes)) ≡ all → (cond left_out rest (passes || rest) || among) ≡ all
kept_any true true true rest all same h = h
kept_any true true false rest all same h = h
kept_any true false true rest all same h = absurd (true≢false (same refl))
kept_any true false false rest all same h = h
kept_any false true true rest all same h = absurd (false≢true (same refl))
kept_any false true false rest all same h = h
kept_any false false true true all same h = h
kept_any false false true false all same h = h
kept_any false false false rest all same h = h

any_cond : (p : Generic → Bool) (b : Bool) (object : Generic) (rest : List Generic) → list_any p (cond b rest (object ∷ rest)) ≡ cond b (list_any p rest) (p object || list_any p rest)
any_cond p true object rest = refl
any_cond p false object rest = refl

any_after : (kind : List ℕ) (before objects : List Generic)
    → (list_any (is_of_kind kind) (firsts_after before objects) || list_any (is_of_kind kind) before) ≡ list_any (is_of_kind kind) (before ++ objects)
any_after kind before [] = ap (λ xs. list_any (is_of_kind kind) xs) (sym (append-nil before))
any_after kind before (object ∷ objects) =
    ap (λ b. b || list_any (is_of_kind kind) before) (any_cond (is_of_kind kind) (list_any (is_of_kind object.kind) before) object (firsts_after (before ++ object ∷ []) objects))
    ∙ kept_any (list_any (is_of_kind object.kind) before) (list_any (is_of_kind kind) before) (is_of_kind kind object)
    (list_any (is_of_kind kind) (firsts_after (before ++ object ∷ []) objects)) (list_any (is_of_kind kind) (before ++ object ∷ objects)) (same_among kind object before)
    (ap (λ b. list_any (is_of_kind kind) (firsts_after (before ++ object ∷ []) objects) || b) (sym (any_push kind before object))
    ∙ any_after kind (before ++ object ∷ []) objects ∙ ap (λ xs. list_any (is_of_kind kind) xs) (append_assoc before (object ∷ []) objects))

pub any_firsts : (kind : List ℕ) (objects : List Generic) → list_any (is_of_kind kind) (firsts objects) ≡ list_any (is_of_kind kind) objects
unfolding firsts
any_firsts kind objects = sym (or-false (list_any (is_of_kind kind) (firsts_after [] objects))) ∙ any_after kind [] objects

-- ---- one object more

pushed : (b c : Bool) (object : Generic) (front back rest : List Generic) → back ≡ front ++ cond c [] rest → cond b back (object ∷ back) ≡ cond b front (object ∷ front) ++ cond c [] rest
pushed true c object front back rest is = is
pushed false c object front back rest is = ap (λ xs. object ∷ xs) is

push_after : (before objects : List Generic) (object : Generic)
    → firsts_after before (objects ++ object ∷ []) ≡ firsts_after before objects ++ cond (list_any (is_of_kind object.kind) (before ++ objects)) [] (object ∷ [])
push_after before [] object = rw (append-nil before) refl
push_after before (first ∷ objects) object =
    pushed (list_any (is_of_kind first.kind) before) (list_any (is_of_kind object.kind) (before ++ first ∷ objects)) first _ _ (object ∷ [])
    (push_after (before ++ first ∷ []) objects object
    ∙ ap (λ xs. firsts_after (before ++ first ∷ []) objects ++ cond (list_any (is_of_kind object.kind) xs) [] (object ∷ [])) (append_assoc before (first ∷ []) objects))

pub firsts_push : (objects : List Generic) (object : Generic)
    → firsts (objects ++ object ∷ []) ≡ firsts objects ++ cond (list_any (is_of_kind object.kind) objects) [] (object ∷ [])
unfolding firsts
firsts_push objects object = push_after [] objects object
