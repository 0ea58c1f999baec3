-- What a row of items is seen as.
use Rattle.std.specs.Prelude.{◌≡◌, ℕ, All, Contains, ◌+◌, ◌*◌, ◌≤◌, Bool, not, List, [], ◌∷◌, ◌++◌, None, Some, length, take, filter, find, option_to_list}
use Rattle.std.specs.declared.option.Option.{Option}
use Rattle.rows.specs.Cells.{CellsSeen, present}

-- the items, in order, how many more can be pushed without memory, and how many of them, from the first on, a walk has
-- passed
pub record RowSeen (T : Type 0) : Type 0 where
  pub items : List T
  pub spare : ℕ
  pub passed : ℕ

module _ {T : Type 0} where
  -- a walk had passed all that it has passed now
  abbrev pub ArePassed : RowSeen T → RowSeen T → Type 0
  ArePassed old new = All (Contains (take old.passed old.items)) (take new.passed new.items)

  -- the item that passes the test moved to the end
  abbrev pub moved : (T → Bool) → List T → List T
  moved test items = filter (λ item. not (test item)) items ++ option_to_list (find test items)

  -- what was found was taken out of the items, and nothing else
  abbrev pub IsTakenOut : Option T → List T → List T → Type 0
  IsTakenOut None old new = new ≡ old
  IsTakenOut (Some item) old new = (before : List T) × ((behind : List T)
      × ((old ≡ before ++ item ∷ behind) × (new ≡ before ++ behind)))

  -- a row's places: as many items as are counted, none before its front, room for the items that are promised, and
  -- twice as many places as there are items and reserved places; a walk is within them
  pub record IsRow (seen : CellsSeen T) (count front spare walk : ℕ) : Type 0 where
    pub count_is : count ≡ length (present seen.cells)
    pub gone : present (take front seen.cells) ≡ []
    pub within : front ≤ length seen.cells
    pub at_hand : spare ≤ seen.spare
    pub places : 2 * (count + spare) ≤ seen.room + length seen.cells
    pub walked : walk ≤ length seen.cells
