-- What the rule of a cell says, each part by itself.
use Rattle.std.specs.Prelude.{◌≡◌, ℕ, ◌+◌, ◌%◌, ◌^◌, ◌<◌, ◌≤◌, ◌⊎◌, List, [], ◌∷◌, ◌++◌, Option, Some}
use Rattle.std.specs.List.{Contains}
use mathlib.Core.Option as maybe
use lib.ListN.{get_elem?}
use Rattle.atomic_table.specs.Table.{State}
use Rattle.turn_cell.specs.declared.view.View.{View}
use Rattle.turn_cell.specs.declared.view.Stage.TheVariants.{Serving}
use Rattle.turn_cell.specs.History.{AllBelow}
use Rattle.turn_cell.specs.Rule.{HasTicket, tickets, IsFree, Kept}

module _ {E : Type 0} where
  abbrev pub IsBeginning : List (ℕ × E) → List (ℕ × E) → Type 0
  IsBeginning a b = (rest : List (ℕ × E)) × (b ≡ a ++ rest)

  -- the seat `id` has this view
  abbrev pub IsSeat : List (View E) → ℕ → View E → Type 0
  IsSeat views id v = get_elem? views id ≡ maybe.some v

  -- of what any two seats have seen, one is a beginning of the other
  abbrev pub SeenInOneOrder : List (View E) → Type 0
  SeenInOneOrder views = (i j : ℕ) (v w : View E) → IsSeat views i v → IsSeat views j w → IsBeginning v.seen w.seen
      ⊎ IsBeginning w.seen v.seen

  -- each number below `passes` belongs to exactly one seat, and no other number to any
  abbrev pub NumbersHaveOneOwner : ℕ → List (View E) → Type 0
  NumbersHaveOneOwner passes views =
      ((x : ℕ) → x < passes → (i : ℕ) × (v : View E) × IsSeat views i v × Contains v.numbers x
      × ((j : ℕ) (w : View E) → IsSeat views j w → Contains w.numbers x → j ≡ i))
      × ((i : ℕ) (v : View E) (x : ℕ) → IsSeat views i v → Contains v.numbers x → x < passes)

  -- an entry that any seat has seen has a number below `passes`, and the seat to which its number belongs has seen it
  abbrev pub OwnersHaveSeen : ℕ → List (View E) → Type 0
  OwnersHaveSeen passes views = (i : ℕ) (v : View E) → IsSeat views i v → AllBelow passes v.seen
      × ((j : ℕ) (w : View E) (e : ℕ × E) → IsSeat views j w → Contains v.seen e → Contains w.numbers e.0
      → Contains w.seen e)

  -- Word 1 and the number of tickets that are out give word 0. The tickets lie from the one served up to the next one,
  -- no two are the same, and who has the turn has the one served.
  abbrev pub TicketsAreCounted : List ℕ → List (View E) → Type 0
  TicketsAreCounted words views = (served : ℕ) × (drawn : ℕ) × (words ≡ (drawn % 2 ^ 64) ∷ (served % 2 ^ 64) ∷ [])
      × (drawn ≡ served + tickets views)
      × ((i : ℕ) (v : View E) (k : ℕ) → IsSeat views i v → HasTicket v.stage k → (served ≤ k) × (k < drawn)
      × ((j : ℕ) (w : View E) → IsSeat views j w → HasTicket w.stage k → j ≡ i))
      × ((i : ℕ) (v : View E) (k : ℕ) → IsSeat views i v → v.stage ≡ Serving k → k ≡ served)

  -- the history begins with what any seat has seen, and is what one has seen
  abbrev pub IsLongest : List (View E) → List (ℕ × E) → Type 0
  IsLongest views h = ((i : ℕ) (v : View E) → IsSeat views i v → IsBeginning v.seen h) × ((i : ℕ) × (v : View E)
      × IsSeat views i v × (v.seen ≡ h))

module _ {V E : Type 0} (stands : V → List (ℕ × E) → Type 0) where
  -- Where nobody has the turn, the slot has a value that stands for the longest history that was seen. Who has the turn
  -- has seen the longest, and the value is out with it.
  abbrev pub SlotHasLongest : State (Option V) (View E) → Type 0
  SlotHasLongest s =
      (IsFree s.views → (x : V) × (h : List (ℕ × E)) × (s.homes ≡ maybe.some (Some x) ∷ []) × stands x h
      × IsLongest s.views h)
      × ((i : ℕ) (v : View E) (k : ℕ) → IsSeat s.views i v → v.stage ≡ Serving k → (s.homes ≡ maybe.none ∷ [])
      × IsLongest s.views v.seen)

  -- P holds in each state under the rule
  abbrev pub Always : (ℕ → State (Option V) (View E) → Type 0) → Type 0
  Always P = (passes : ℕ) (s : State (Option V) (View E)) → Kept stands passes s → P passes s
