-- Views of seats: how they begin, how they are cut in two and joined.
use Rattle.std.specs.Prelude.{ℕ, List, [], ◌++◌, take, drop}
use Rattle.turn_cell.specs.declared.view.View.{View}
use Rattle.turn_cell.specs.declared.view.Stage.{Stage}
use Rattle.turn_cell.specs.declared.view.Stage.TheVariants.{Making, Resting, Joined}
use Rattle.turn_cell.specs.History.{numbers_from, longer}

module _ {E : Type 0} where
  abbrev pub at_stage : Stage E → View E → View E
  at_stage stage v = record { passes = v.passes; numbers = v.numbers; seen = v.seen; stage = stage }

  abbrev pub having_seen : List (ℕ × E) → Stage E → View E → View E
  having_seen seen stage v = record { passes = v.passes; numbers = v.numbers; seen = seen; stage = stage }

  -- the seat that makes the passes, with the numbers that it has left
  abbrev pub maker_with : ℕ → List ℕ → View E
  maker_with passes numbers = record { passes = passes; numbers = numbers; seen = []; stage = Making }

  -- the first seat: all numbers are its own until passes are made
  abbrev pub maker : ℕ → View E
  maker passes = maker_with passes (numbers_from 0 passes)

  -- a new pass takes the first number from the maker
  abbrev pub without_first : View E → View E
  without_first v = record { passes = v.passes; numbers = drop 1 v.numbers; seen = v.seen; stage = v.stage }

  abbrev pub with_first : View E → View E
  with_first v = record { passes = v.passes; numbers = take 1 v.numbers; seen = []; stage = Resting }

  -- one seat of two, which still knows what each of them was
  abbrev pub joined : View E → View E → View E
  joined v w = record {
    passes = v.passes;
    numbers = v.numbers ++ w.numbers;
    seen = longer v.seen w.seen;
    stage = Joined v.numbers v.seen w.numbers w.seen;
  }

  -- what is left of a seat that another has taken in
  abbrev pub spent : View E
  spent = record { passes = 0; numbers = []; seen = []; stage = Resting }
