-- What a list with reserved places is seen as.
use Rattle.std.specs.Prelude.{ℕ, ◌+◌, ◌-◌, List, [], ◌∷◌, ◌++◌, length}

-- the items, in order, and how many more can be pushed without memory
pub record Places (T : Type 0) : Type 0 where
  pub items : List T
  pub spare : ℕ

-- the list with one more item, at a place that was reserved
abbrev pub with_item : {T : Type 0} → Places T → T → Places T
with_item places item = record places { items = places.items ++ item ∷ []; spare = places.spare - 1 }

-- the list without its items, whose places are reserved again
abbrev pub emptied : {T : Type 0} → Places T → Places T
emptied places = record { items = []; spare = length places.items + places.spare }
