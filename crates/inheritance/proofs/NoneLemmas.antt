-- Where no object of the arrays is so, no effective object is.
use Rattle.std.proofs.Common.{◌≡◌, ℕ, Bool, true, false, cond, ◌||◌, List, [], ◌∷◌, ◌++◌, map, refl, sym, ◌∙◌, ap, None, Some}
use Rattle.std.specs.List.{find, list_any}
use Rattle.std.specs.Option.{option_or, unwrap_or}
use Rattle.std.specs.declared.option.Option.{Option}
use Rattle.std.proofs.lemmas.List.Folds.{list_any-append}
use Rattle.metadata_objects.specs.declared.generic.Generic.{Generic}
use Rattle.metadata_objects.specs.GenericList.{is_of_kind}
use Rattle.inheritance.specs.Effective.{innermost, firsts, firsts_after, all_objects, overriding, effective}

module _ (p : Generic → Bool) where
  -- neither of two is so
  left : (a b : Bool) → (a || b) ≡ false → a ≡ false
  left true b is = is
  left false b is = refl

  right : (a b : Bool) → (a || b) ≡ false → b ≡ false
  right true b is = absurd (cc)
  right false b is = is

  -- what is found is one of the objects
  found_none : (q : Generic → Bool) (xs : List Generic) (x : Generic) → list_any p xs ≡ false → find q xs ≡ Some x → p x ≡ false
  found_none q [] x none is = absurd (cc)
  found_none q (first ∷ xs) x none is = by (q first) is (found_none q xs x (right (p first) (list_any p xs) none))
    where
      by : (b : Bool) → cond b (Some first) (find q xs) ≡ Some x → (find q xs ≡ Some x → p x ≡ false) → p x ≡ false
      by true same next = let e : first ≡ x = cc in ap p (sym e) ∙ left (p first) (list_any p xs) none
      by false same next = next same

  innermost_none : (kind : List ℕ) (arrays : List (List Generic)) (x : Generic) → list_any (list_any p) arrays ≡ false → innermost kind arrays ≡ Some x → p x ≡ false
  innermost_none kind [] x none is = absurd (cc)
  innermost_none kind (objects ∷ inner) x none is =
      by (innermost kind inner) refl is (innermost_none kind inner x (right (list_any p objects) (list_any (list_any p) inner) none))
    where
      by : (found : Option Generic) → innermost kind inner ≡ found → option_or found (find (is_of_kind kind) objects) ≡ Some x
          → (innermost kind inner ≡ Some x → p x ≡ false) → p x ≡ false
      by None there same next = found_none (is_of_kind kind) objects x (left (list_any p objects) (list_any (list_any p) inner) none) same
      by (Some y) there same next = next (there ∙ same)

  overriding_none : (arrays : List (List Generic)) (object : Generic) → list_any (list_any p) arrays ≡ false → p object ≡ false → p (overriding arrays object) ≡ false
  overriding_none arrays object none own = by (innermost object.kind arrays) refl
    where
      by : (found : Option Generic) → innermost object.kind arrays ≡ found → p (unwrap_or found object) ≡ false
      by None there = own
      by (Some y) there = innermost_none object.kind arrays y none there

  all_none : (arrays : List (List Generic)) → list_any (list_any p) arrays ≡ false → list_any p (all_objects arrays) ≡ false
  all_none [] none = none
  all_none (objects ∷ inner) none =
      list_any-append p objects (all_objects inner) ∙ ap (λ b. b || list_any p (all_objects inner)) (left (list_any p objects) (list_any (list_any p) inner) none)
      ∙ all_none inner (right (list_any p objects) (list_any (list_any p) inner) none)

  firsts_none : (arrays : List (List Generic)) (before objects : List Generic) → list_any (list_any p) arrays ≡ false → list_any p objects ≡ false
      → find p (map (overriding arrays) (firsts_after before objects)) ≡ None
  firsts_none arrays before [] none own = refl
  firsts_none arrays before (object ∷ objects) none own =
      by (firsts_none arrays (before ++ object ∷ []) objects none (right (p object) (list_any p objects) own)) (list_any (is_of_kind object.kind) before)
    where
      by : find p (map (overriding arrays) (firsts_after (before ++ object ∷ []) objects)) ≡ None → (b : Bool) → find p (map (overriding arrays) (cond b (firsts_after (before ++ object ∷ []) objects) (object ∷ firsts_after (before ++ object ∷ []) objects))) ≡ None
      by next true = next
      by next false = ap (λ b. cond b (Some (overriding arrays object)) (find p (map (overriding arrays) (firsts_after (before ++ object ∷ []) objects))))
          (overriding_none arrays object none (left (p object) (list_any p objects) own)) ∙ next

  pub effective_none : (arrays : List (List Generic)) → list_any (list_any p) arrays ≡ false → find p (effective arrays) ≡ None
  unfolding firsts effective
  effective_none arrays none = firsts_none arrays [] (all_objects arrays) none (all_none arrays none)
