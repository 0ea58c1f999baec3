-- What is in memory was there before, or is kept.
use Rattle.std.proofs.Common.{◌≡◌, ℕ, ◌⊎◌, Bool, true, false, cond, not, All, Contains, List, [], ◌∷◌, map, None, Some, refl, sym, subst, inl, inr}
use Rattle.std.specs.List.{filter, find}
use Rattle.std.specs.Option.{option_to_list}
use Rattle.std.specs.declared.option.Option.{Option}
use Rattle.std.proofs.lemmas.List.{map-append}
use Rattle.std.proofs.lemmas.List.Elements.{All-append, All-cons, All-contains_itself, All-head, All-nil, All-tail, All-weaker}
use Rattle.cdni_base.specs.Key.{KeyParts}
use Rattle.history.specs.World.{Kept}
use Rattle.object_cache.specs.ObjectTable as objects
use Rattle.object_cache.specs.declared.object.Object.{Object}
use Rattle.rows.specs.Row.{moved}
use Rattle.shelf.specs.KeptShelf.{IsPartOf, IsPartOfOrKept, kept_object}

pub part_same : (xs : List Kept) → IsPartOf xs xs
part_same xs = All-contains_itself xs

pub part_or_same : (xs kept : List Kept) → IsPartOfOrKept xs xs kept
part_or_same xs kept = All-weaker (Contains xs) (λ one. Contains xs one ⊎ Contains kept one) (λ one there. inl there) xs (All-contains_itself xs)

-- all that is in memory is kept
pub part_or_kept : (xs old kept : List Kept) → kept ≡ xs → IsPartOfOrKept xs old kept
part_or_kept xs old kept is = subst (λ k. IsPartOfOrKept xs old k) (sym is) (All-weaker (Contains xs) (λ one. Contains old one ⊎ Contains xs one) (λ one there. inr there) xs (All-contains_itself xs))

module _ (P : Kept → Type 0) where
  all_filtered : (test : Object → Bool) (os : List Object) → All P (map kept_object os) → All P (map kept_object (filter test os))
  all_filtered test [] all = All-nil P
  all_filtered test (o ∷ os) all =
      let rest = all_filtered test os (All-tail P (kept_object o) (map kept_object os) all) in elim (test o) as (λ t. All P (map kept_object (cond t (o ∷ filter test os) (filter test os)))) [
        | true ↦ All-cons P (kept_object o) (map kept_object (filter test os)) (All-head P (kept_object o) (map kept_object os) all) rest
        | false ↦ rest
      ]

  all_found : (test : Object → Bool) (os : List Object) → All P (map kept_object os) → All P (map kept_object (option_to_list (find test os)))
  all_found test [] all = All-nil P
  all_found test (o ∷ os) all =
      let rest = all_found test os (All-tail P (kept_object o) (map kept_object os) all) in elim (test o) as (λ t. All P (map kept_object (option_to_list (cond t (Some o) (find test os))))) [
        | true ↦ All-cons P (kept_object o) [] (All-head P (kept_object o) (map kept_object os) all) (All-nil P)
        | false ↦ rest
      ]

  all_moved : (test : Object → Bool) (os : List Object) → All P (map kept_object os) → All P (map kept_object (moved test os))
  all_moved test os all = subst (All P) (sym (map-append kept_object (filter (λ o. not (test o)) os) (option_to_list (find test os))))
      (All-append P (map kept_object (filter (λ o. not (test o)) os)) (map kept_object (option_to_list (find test os))) (all_filtered (λ o. not (test o)) os all) (all_found test os all))

  renewed_same : (begun : ℕ) (found : Option Object) → map kept_object (map (objects.renewed_one begun) (option_to_list found)) ≡ map kept_object (option_to_list found)
  renewed_same begun None = refl
  renewed_same begun (Some o) = refl

  all_renewed : (key : KeyParts) (begun : ℕ) (os : List Object) → All P (map kept_object os) → All P (map kept_object (objects.renewed key begun os))
  all_renewed key begun os all = subst (All P) (sym (map-append kept_object (objects.others key os) (map (objects.renewed_one begun) (option_to_list (objects.kept_of key os)))))
      (All-append P (map kept_object (objects.others key os)) (map kept_object (map (objects.renewed_one begun) (option_to_list (objects.kept_of key os)))) (all_filtered (λ o. not (objects.is_of key o)) os all)
      (subst (All P) (sym (renewed_same begun (objects.kept_of key os))) (all_found (objects.is_of key) os all)))

pub part_moved : (test : Object → Bool) (os : List Object) → IsPartOf (map kept_object (moved test os)) (map kept_object os)
part_moved test os = all_moved (Contains (map kept_object os)) test os (All-contains_itself (map kept_object os))

pub part_others : (key : KeyParts) (os : List Object) → IsPartOf (map kept_object (objects.others key os)) (map kept_object os)
part_others key os = all_filtered (Contains (map kept_object os)) (λ o. not (objects.is_of key o)) os (All-contains_itself (map kept_object os))

pub part_renewed : (key : KeyParts) (begun : ℕ) (os : List Object) → IsPartOf (map kept_object (objects.renewed key begun os)) (map kept_object os)
part_renewed key begun os = all_renewed (Contains (map kept_object os)) key begun os (All-contains_itself (map kept_object os))
