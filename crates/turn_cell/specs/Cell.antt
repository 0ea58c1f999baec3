-- Cells, passes and turns, as the contracts speak of them.
use Rattle.std.specs.Prelude.{◌≡◌, ℕ, ◌<◌, List, [], ◌∷◌, None}
use Rattle.std.specs.List.{Contains}
use Rattle.atomic_table.specs.Seated.{TableId}
use Rattle.turn_cell.specs.declared.view.View.{View}
use Rattle.turn_cell.specs.declared.view.Stage.TheVariants.{Resting, Serving}
use Rattle.turn_cell.specs.declared.pass.Pass.{Pass}
use Rattle.turn_cell.specs.declared.cell.TurnCell.{TurnCell}
use Rattle.turn_cell.specs.declared.turn.Turn.{Turn}
use Rattle.turn_cell.specs.History.{AllBelow}

module _ {E : Type 0} where
  abbrev pub number_of : Pass E → ℕ
  number_of pass = pass.number

  abbrev pub seen_in : List (View E) → List (ℕ × E)
  seen_in [] = []
  seen_in (v ∷ vs) = v.seen

  abbrev pub numbers_in : List (View E) → List ℕ
  numbers_in [] = []
  numbers_in (v ∷ vs) = v.numbers

  -- the beginning of the history that the pass has seen
  abbrev pub seen_of : Pass E → List (ℕ × E)
  seen_of pass = seen_in pass.badge.views

  -- the numbers that belong to the pass: its own, and those of the passes that were joined into it
  abbrev pub numbers_of : Pass E → List ℕ
  numbers_of pass = numbers_in pass.badge.views

  -- a view of a pass with this number that has no turn, in a cell with so many passes
  abbrev pub IsResting : ℕ → ℕ → View E → Type 0
  IsResting passes number v = (v.stage ≡ Resting) × (v.passes ≡ passes) × Contains v.numbers number
      × AllBelow passes v.seen

  -- the pass belongs to this table, and has no turn
  abbrev pub SitsAt : TableId → ℕ → Pass E → Type 0
  SitsAt table passes pass = (pass.badge.table_id ≡ table) × (pass.number < passes) × ((v : View E)
      × (pass.badge.views ≡ v ∷ []) × IsResting passes pass.number v)

module _ {V E : Type 0} where
  -- how many passes the cell was made with
  abbrev pub passes_of : TurnCell V E → ℕ
  passes_of cell = cell.table.shared.key

  -- the pass is of this cell, and holds no turn
  abbrev pub IsOf : TurnCell V E → Pass E → Type 0
  IsOf cell pass = SitsAt cell.table.shared.table_id (passes_of cell) pass

  -- all other passes of the cell were joined into this one: each number is its own
  abbrev pub HasAllNumbers : TurnCell V E → Pass E → Type 0
  HasAllNumbers cell pass = (x : ℕ) → x < passes_of cell → Contains (numbers_of pass) x

  abbrev pub cell_of : Turn V E → TurnCell V E
  cell_of turn = turn.cell.now

  abbrev pub turn_number : Turn V E → ℕ
  turn_number turn = turn.number

  -- the numbers that belong to the pass that has the turn
  abbrev pub turn_numbers : Turn V E → List ℕ
  turn_numbers turn = turn.seat.me.0.numbers

  abbrev pub value_of : Turn V E → V
  value_of turn = turn.value

  -- the history that the value stood for as the turn began
  abbrev pub taken : Turn V E → List (ℕ × E)
  taken turn = turn.seat.me.0.seen

  -- the same turn, with another value
  abbrev pub with_value : Turn V E → V → Turn V E
  with_value turn value = record {
    cell = turn.cell;
    seat = turn.seat;
    number = turn.number;
    value = value;
    guard = turn.guard;
  }

  -- the turn is one of its cell, taken by a pass of this cell. `take` gives no others
  pub record IsTaken (turn : Turn V E) : Type 0 where
    pub table : turn.seat.table_id ≡ turn.cell.now.table.shared.table_id
    pub serves : (k : ℕ) × (turn.seat.me.0.stage ≡ Serving k)
    pub slot : turn.seat.me.1 ≡ (0, None) ∷ []
    pub passes : turn.seat.me.0.passes ≡ turn.cell.now.table.shared.key
    pub number : turn.number < turn.cell.now.table.shared.key
    pub own : Contains turn.seat.me.0.numbers turn.number
    pub made : AllBelow turn.cell.now.table.shared.key turn.seat.me.0.seen

  -- the pass is the one that took the turn
  abbrev pub HasTaken : Pass E → Turn V E → Type 0
  HasTaken pass turn = (pass.badge.views ≡ []) × (pass.number ≡ turn.number)
