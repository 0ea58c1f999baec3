-- Which objects of the arrays that apply are effective (RFC 8006, section 3.3): a type's object overrides those of the
-- levels outside it, whether it is understood or not.
use Rattle.std.specs.Prelude.{ℕ, ◌<◌, ◌≢◌, List, [], ◌∷◌, ◌++◌, map, None, if◌then◌else◌}
use Rattle.std.specs.List.{find, list_any, flat_map, position_or_len, AllPairs}
use Rattle.std.specs.Option.{option_or, unwrap_or}
use Rattle.std.specs.declared.option.Option.{Option}
use Rattle.metadata_objects.specs.declared.generic.Generic.{Generic}
use Rattle.metadata_objects.specs.GenericList.{is_of_kind}

-- the first object of the type in the innermost array that has one; arrays stand outermost first
abbrev pub innermost : List ℕ → List (List Generic) → Option Generic
innermost kind [] = None
innermost kind (objects ∷ inner) = option_or (innermost kind inner) (find (is_of_kind kind) objects)

-- of the objects after those before, the first of each type that is not among those before
abbrev pub firsts_after : List Generic → List Generic → List Generic
firsts_after before [] = []
firsts_after before (object ∷ objects) =
    if list_any (is_of_kind object.kind) before then firsts_after (before ++ object ∷ []) objects
    else object ∷ firsts_after (before ++ object ∷ []) objects

-- the first object of each type, in order
unfoldable pub firsts : List Generic → List Generic
firsts objects = firsts_after [] objects

-- the objects of all arrays, from outside
abbrev pub all_objects : List (List Generic) → List Generic
all_objects arrays = flat_map (λ objects. objects) arrays

-- the object that counts in the place of this one
abbrev pub overriding : List (List Generic) → Generic → Generic
overriding arrays object = unwrap_or (innermost object.kind arrays) object

-- one object for each type, in order of first appearance from outside, each the first of its type in the innermost
-- array that has one
unfoldable pub effective : List (List Generic) → List Generic
effective arrays = map (overriding arrays) (firsts (all_objects arrays))

-- ---- what is said of the list

-- no two objects have one type
abbrev pub AreOfTheirOwnTypes : List Generic → Type 0
AreOfTheirOwnTypes objects = AllPairs (λ one other. one.kind ≢ other.kind) objects

-- where a type first appears among the objects of all arrays, from outside
abbrev pub first_place : List (List Generic) → List ℕ → ℕ
first_place arrays kind = position_or_len (is_of_kind kind) (all_objects arrays)

-- of each two objects the type of the one that stands before appears before that of the other, from outside
abbrev pub AreInOrderFromOutside : List (List Generic) → List Generic → Type 0
AreInOrderFromOutside arrays objects =
    AllPairs (λ one other. first_place arrays one.kind < first_place arrays other.kind) objects
