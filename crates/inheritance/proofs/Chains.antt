-- The arrays below a level are those of the first pattern that matches.
use Rattle.std.proofs.Common.{◌≡◌, ◌↔◌, ◌⊎◌, ℕ, Bool, true, false, zero, suc, List, [], ◌∷◌, ◌∙◌, refl, sym, ap, subst, inl, inr, None, Some, cond}
use Rattle.std.specs.Option.{option_map, option_map_or}
use Rattle.std.specs.List.{find}
use Rattle.std.proofs.lemmas.Bool.{cond-true, cond-false}
use Rattle.std.proofs.lemmas.Option.{same_Some, none-some}
use Rattle.listing.specs.FirstMatch.{NoneHolds, IsFirst}
use Rattle.listing.proofs.FirstMatchLemmas.{find_none, find_first, none_found, first_found, first_here, first_more, none_more}
use Rattle.targets.specs.declared.target.Target.{Target}
use Rattle.std.specs.declared.option.Option.{Option}
use Rattle.metadata_objects.specs.LevelData.{LevelData, level_data, Branches, no_branches, branch, Site, Index, branches_in, objects_in}
use Rattle.metadata_objects.specs.declared.generic.Generic.{Generic}
use Rattle.pattern_match.specs.Matching.{Compiled, is_match}
use Rattle.inheritance.specs.Chain.{matches_target, arrays_at, arrays_below, first_below, chain, paths_in, applies, IsInner, AreLevels, IsChain}

chosen : (path : List ℕ) (b : Bool) (inner : LevelData) (others : List (List Generic)) (found : Option LevelData) → others ≡ option_map_or (arrays_at path) found []
    → cond b (arrays_at path inner) others ≡ option_map_or (arrays_at path) (cond b (Some inner) found) []
chosen path true inner others found is = refl
chosen path false inner others found is = is

below_first : (path : List ℕ) (below : Branches) → arrays_below path below ≡ option_map_or (arrays_at path) (first_below path below) []
unfolding arrays_below
below_first path no_branches = refl
below_first path (branch pattern inner others) = chosen path (is_match pattern path) inner (arrays_below path others) (first_below path others) (below_first path others)

arrays_here : (path : List ℕ) (here : LevelData) → arrays_at path here ≡ objects_in here ∷ option_map_or (arrays_at path) (first_below path (branches_in here)) []
unfolding arrays_at
arrays_here path (level_data objects below) = rw (below_first path below) refl

pub arrays_more : (path : List ℕ) (here inner : LevelData) → Some inner ≡ first_below path (branches_in here) → arrays_at path here ≡ objects_in here ∷ arrays_at path inner
arrays_more path here inner found = arrays_here path here ∙ rw (← found) refl

pub arrays_last : (path : List ℕ) (here : LevelData) → None ≡ first_below path (branches_in here) → arrays_at path here ≡ objects_in here ∷ []
arrays_last path here none = arrays_here path here ∙ rw (← none) refl

-- ---- the arrays are those of the relation

abbrev below_of : Option (Compiled × LevelData) → Option LevelData
below_of found = option_map (λ (one : Compiled × LevelData). one.1) found

below_cond : (b : Bool) (pattern : Compiled) (inner : LevelData) (found : Option (Compiled × LevelData)) (rest : Option LevelData) → rest ≡ below_of found
    → cond b (Some inner) rest ≡ below_of (cond b (Some (pattern, inner)) found)
below_cond true pattern inner found rest is = refl
below_cond false pattern inner found rest is = is

first_is_found : (path : List ℕ) (below : Branches) → first_below path below ≡ below_of (find (applies path) (paths_in below))
first_is_found path no_branches = refl
first_is_found path (branch pattern inner others) = below_cond (is_match pattern path) pattern inner (find (applies path) (paths_in others)) (first_below path others) (first_is_found path others)

levels_more : (path : List ℕ) (here inner : LevelData) (arrays : List (List Generic)) → IsInner path here inner → AreLevels path inner arrays → AreLevels path here (objects_in here ∷ arrays)
levels_more path here inner [] first levels = absurd levels
levels_more path here inner (next ∷ arrays) first levels = (refl, (inner, first, levels))

-- what is found among the PathMatch objects: none that matches, and then no more arrays, or the first that does
Below : List ℕ → Branches → Type 0
Below path below = ((arrays_below path below ≡ []) × NoneHolds (applies path) (paths_in below))
    ⊎ ((inner : LevelData) × (pattern : Compiled) × (index : ℕ) × IsFirst (applies path) (paths_in below) index (pattern, inner) × (arrays_below path below ≡ arrays_at path inner) × AreLevels path inner (arrays_at path inner))

at_tree : (path : List ℕ) (objects : List Generic) (below : Branches) → arrays_at path (level_data objects below) ≡ objects ∷ arrays_below path below
unfolding arrays_at
at_tree path objects below = refl

below_none : (path : List ℕ) → arrays_below path no_branches ≡ []
unfolding arrays_below
below_none path = refl

below_branch : (path : List ℕ) (pattern : Compiled) (inner : LevelData) (others : Branches) → arrays_below path (branch pattern inner others) ≡ cond (is_match pattern path) (arrays_at path inner) (arrays_below path others)
unfolding arrays_below
below_branch path pattern inner others = refl

branch_is : (path : List ℕ) (pattern : Compiled) (inner : LevelData) (others : Branches) (b : Bool) → is_match pattern path ≡ b → AreLevels path inner (arrays_at path inner)
    → Below path others → Below path (branch pattern inner others)
unfolding Below
branch_is path pattern inner others true is levels rest =
    inr (inner, pattern, zero, first_here (applies path) (pattern, inner) (paths_in others) is, below_branch path pattern inner others ∙ cond-true _ _ _ is, levels)
branch_is path pattern inner others false is levels (inl none) =
    inl (below_branch path pattern inner others ∙ cond-false _ _ _ is ∙ none.0, none_more (applies path) (pattern, inner) (paths_in others) is none.1)
branch_is path pattern inner others false is levels (inr found) =
    inr (found.0, found.1, suc found.2, first_more (applies path) (pattern, inner) (paths_in others) found.2 (found.1, found.0) is found.3, below_branch path pattern inner others ∙ cond-false _ _ _ is ∙ found.4, found.5)

levels_from : (path : List ℕ) (objects : List Generic) (below : Branches) → Below path below → AreLevels path (level_data objects below) (arrays_at path (level_data objects below))
unfolding Below
levels_from path objects below (inl none) =
    subst (AreLevels path (level_data objects below)) (sym (at_tree path objects below ∙ ap (λ (xs : List (List Generic)). objects ∷ xs) none.0)) (refl, none.1)
levels_from path objects below (inr found) =
    subst (AreLevels path (level_data objects below)) (sym (at_tree path objects below ∙ ap (λ (xs : List (List Generic)). objects ∷ xs) found.4))
    (levels_more path (level_data objects below) found.0 (arrays_at path found.0) (found.2, found.1, found.3) found.5)

no_more : (path : List ℕ) → Below path no_branches
unfolding Below
no_more path = inl (below_none path, λ i one at. absurd (none-some one at))

mutual
  levels_at : (path : List ℕ) (here : LevelData) → AreLevels path here (arrays_at path here)
  levels_at path (level_data objects below) = levels_from path objects below (below_is path below)

  below_is : (path : List ℕ) (below : Branches) → Below path below
  below_is path no_branches = no_more path
  below_is path (branch pattern inner others) = branch_is path pattern inner others (is_match pattern path) refl (levels_at path inner) (below_is path others)

only_levels : (path : List ℕ) (here : LevelData) (arrays : List (List Generic)) → AreLevels path here arrays → arrays_at path here ≡ arrays
only_levels path here [] levels = absurd levels
only_levels path here (objects ∷ []) levels =
    arrays_last path here (sym (first_is_found path (branches_in here) ∙ ap below_of (find_none (applies path) (paths_in (branches_in here)) levels.1)))
    ∙ ap (λ (xs : List Generic). xs ∷ []) (sym levels.0)
only_levels path here (objects ∷ next ∷ arrays) levels =
    let inner = levels.1.0 in
    let first = levels.1.1 in
    arrays_more path here inner (sym (first_is_found path (branches_in here) ∙ ap below_of (find_first (applies path) (paths_in (branches_in here)) first.0 (first.1, inner) first.2)))
    ∙ (λ i. sym levels.0 i ∷ only_levels path inner (next ∷ arrays) levels.1.2 i)

pub levels_same : (path : List ℕ) (here : LevelData) (arrays : List (List Generic)) → (arrays_at path here ≡ arrays) ↔ AreLevels path here arrays
levels_same path here arrays = (λ is. subst (AreLevels path here) is (levels_at path here), only_levels path here arrays)

mapped_some : {A B : Type 0} (f : A → B) (o : Option A) (y : B) → option_map f o ≡ Some y → (x : A) × (o ≡ Some x) × (f x ≡ y)
mapped_some f None y is = absurd (none-some y is)
mapped_some f (Some x) y is = (x, refl, same_Some (f x) y is)

mapped_none : {A B : Type 0} (f : A → B) (o : Option A) → option_map f o ≡ None → o ≡ None
mapped_none f None is = refl
mapped_none f (Some x) is = absurd (none-some (f x) (sym is))

pub chain_same : (index : Index) (target : Target) (arrays : List (List Generic)) → (chain index target ≡ Some arrays) ↔ IsChain index target arrays
unfolding chain
chain_same index target arrays = (
  λ is.
      let h = mapped_some (λ (site : Site). arrays_at target.path site.level) (find (matches_target target) index) arrays is in
      let first = first_found (matches_target target) index h.0 h.1 in
      (first.0, h.0, first.1, subst (AreLevels target.path h.0.level) h.2 (levels_at target.path h.0.level)),
  λ is.
      ap (λ (o : Option Site). option_map (λ (site : Site). arrays_at target.path site.level) o) (find_first (matches_target target) index is.0 is.1 is.2)
      ∙ ap (λ (xs : List (List Generic)). Some xs) (only_levels target.path is.1.level arrays is.3),
)

pub none_same : (index : Index) (target : Target) → (chain index target ≡ None) ↔ NoneHolds (matches_target target) index
unfolding chain
none_same index target = (
  λ is. none_found (matches_target target) index (mapped_none (λ (site : Site). arrays_at target.path site.level) (find (matches_target target) index) is),
  λ none. ap (λ (o : Option Site). option_map (λ (site : Site). arrays_at target.path site.level) o) (find_none (matches_target target) index none),
)
