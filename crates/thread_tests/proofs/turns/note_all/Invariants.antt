use Rattle.std.proofs.Common.{◌≡◌}
use Rattle.turn_cell.specs.Cell.{numbers_of, IsOf}
use Rattle.thread_tests.proofs.turns.note_all.Given as goal

abbrev pub invariant-loop-entry : goal.invariant-loop-entry
invariant-loop-entry g l = record { cell : IsOf l.cell l.pass; numbers : numbers_of l.pass ≡ numbers_of l.initial.pass }
