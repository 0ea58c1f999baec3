use Rattle.turn_cell.specs.Cell.{taken}
use Rattle.measures.proofs.turns.run.Given as goal

abbrev pub ghost-give : goal.ghost-give
ghost-give g a = taken a.self
