use Rattle.std.proofs.Common.{◌∷◌, ◌++◌, []}
use Rattle.turn_cell.specs.Cell.{taken, turn_number}
use Rattle.turn_cell.proofs.turn.Turn.give_entry.Given as goal

abbrev pub ghost-give_as : goal.ghost-give_as
ghost-give_as g a = taken a.self ++ (turn_number a.self, a.entry.value) ∷ []
