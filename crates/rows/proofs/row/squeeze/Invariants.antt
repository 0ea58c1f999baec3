use Rattle.std.proofs.Common.{◌≡◌, length}
use Rattle.rows.proofs.RowLemmas.{IsSqueezing}
use Rattle.rows.proofs.row.squeeze.Given as goal

abbrev pub invariant-squeeze : goal.invariant-squeeze
invariant-squeeze g l = record {
  shape : IsSqueezing l.initial.cells.cells l.cells.cells l.to l.p;
  spare : l.cells.spare ≡ l.initial.cells.spare;
  room : l.cells.room ≡ l.initial.cells.room;
  places : length l.cells.cells ≡ length l.initial.cells.cells;
}
