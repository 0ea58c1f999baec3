-- Where the first object of a type stands, with one object more.
use Rattle.std.proofs.Common.{◌≡◌, ℕ, zero, suc, Bool, true, false, cond, List, [], ◌∷◌, ◌++◌, length, slice_get, refl, sym, ◌∙◌, ap, None, Some}
use Rattle.std.specs.List.{find}
use Rattle.std.specs.Option.{option_or}
use Rattle.std.specs.declared.option.Option.{Option}
use Rattle.std.proofs.lemmas.List.Folds.{find-append}
use Rattle.metadata_objects.specs.declared.generic.Generic.{Generic}
use Rattle.metadata_objects.specs.GenericList.{is_of_kind, IsFirstAt}
use Rattle.metadata_objects.specs.declared.generic_list.Understood.{Understood}
use Rattle.metadata_objects.specs.declared.generic_list.Understood.TheVariants as understood

got_longer : (xs : List Generic) (y : Generic) (k : ℕ) (x : Generic) → slice_get xs k ≡ Some x → slice_get (xs ++ y ∷ []) k ≡ Some x
got_longer [] y k x is = absurd (cc)
got_longer (z ∷ xs) y zero x is = is
got_longer (z ∷ xs) y (suc k) x is = got_longer xs y k x is

got_last : (xs : List Generic) (y : Generic) → slice_get (xs ++ y ∷ []) (length xs) ≡ Some y
got_last [] y = refl
got_last (x ∷ xs) y = got_last xs y

found_longer : (kind : List ℕ) (items : List Generic) (object : Generic) (found : Option Generic) → find (is_of_kind kind) items ≡ found
    → find (is_of_kind kind) (items ++ object ∷ []) ≡ option_or found (cond (is_of_kind kind object) (Some object) None)
found_longer kind items object found is = find-append (is_of_kind kind) items (object ∷ []) ∙ ap (λ o. option_or o (cond (is_of_kind kind object) (Some object) None)) is

pub first_kept : (kind : List ℕ) (items : List Generic) (object : Generic) (place : ℕ) → IsFirstAt kind items (Some place) → IsFirstAt kind (items ++ object ∷ []) (Some place)
first_kept kind items object place h = (h.0, found_longer kind items object (Some h.0) h.1, got_longer items object place h.0 h.2)

pub first_new : (kind : List ℕ) (items : List Generic) (object : Generic) (at : ℕ) → length items ≡ at → is_of_kind kind object ≡ true
    → IsFirstAt kind items None → IsFirstAt kind (items ++ object ∷ []) (Some at)
first_new kind items object at long is h =
    (object, found_longer kind items object None h ∙ ap (λ b. cond b (Some object) None) is, rw (sym long) (got_last items object))

pub first_none : (kind : List ℕ) (items : List Generic) (object : Generic) → is_of_kind kind object ≡ false
    → IsFirstAt kind items None → IsFirstAt kind (items ++ object ∷ []) None
first_none kind items object is h = found_longer kind items object None h ∙ ap (λ b. cond b (Some object) None) is

-- what holds of each type that is understood holds of all
pub of_each : (P : Understood → Type 0) → P understood.Source → P understood.Location → P understood.Time → P understood.Protocol
    → P understood.Cache → P understood.Grouping → (kind : Understood) → P kind
of_each P a b c d e f understood.Source = a
of_each P a b c d e f understood.Location = b
of_each P a b c d e f understood.Time = c
of_each P a b c d e f understood.Protocol = d
of_each P a b c d e f understood.Cache = e
of_each P a b c d e f understood.Grouping = f
