use Rattle.turn_cell.specs.Cell.{taken}
use Rattle.turn_cell.proofs.turn.Turn.give_same.Given as goal

abbrev pub ghost-give : goal.ghost-give
ghost-give g a = taken a.self
