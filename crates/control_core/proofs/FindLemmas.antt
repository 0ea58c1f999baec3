-- Looking for the first item that passes a test.
use Rattle.std.proofs.Common.{◌≡◌, ℕ, ◌<◌, Bool, true, false, cond, List, length, get_or, None, Some, refl, sym, ap, ◌∙◌, ltb-false}
use Rattle.std.proofs.lemmas.Option.{none-some}
use Rattle.std.specs.List.{find, position, slice_get}
use Rattle.std.proofs.lemmas.List.Folds.{find_at}
use Rattle.std.proofs.lemmas.Option.{slice_get_past, slice_get-get_or}

at_first : (b : Bool) (n place : ℕ) → cond b (Some n) None ≡ Some place → n ≡ place
at_first true n place is = cc
at_first false n place is = absurd (none-some place is)

fails : (b : Bool) (n : ℕ) → cond b (Some n) None ≡ None → b ≡ false
fails true n is = absurd (none-some n (sym is))
fails false n is = refl

module _ {X : Type 0} (test : X → Bool) (xs : List X) where
  -- what passes is found at its first place
  pub found_here : (place : ℕ) (d : X) → Some place ≡ position test xs → place < length xs → find test xs ≡ Some (get_or xs place d)
  found_here place d is within = find_at test xs ∙ ap (slice_get xs) (at_first _ _ _ (sym is)) ∙ slice_get-get_or xs place d within

  -- and where it has no place nothing passes
  pub found_none : None ≡ position test xs → find test xs ≡ None
  found_none is = find_at test xs ∙ slice_get_past xs _ (ltb-false _ _ (fails _ _ (sym is)))
