use Rattle.turn_cell.specs.Cell.{IsOf}
use Rattle.measures.proofs.turns.work.Given as goal

abbrev pub invariant-loop : goal.invariant-loop
invariant-loop g l = IsOf l.cell l.pass
