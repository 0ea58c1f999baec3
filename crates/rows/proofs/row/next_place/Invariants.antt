use Rattle.std.proofs.Common.{◌≡◌, take}
use Rattle.rows.specs.Cells.{present}
use Rattle.rows.proofs.row.next_place.Given as goal

abbrev pub invariant-places : goal.invariant-places
invariant-places g l = present (take l.p l.cells.cells) ≡ present (take l.from l.cells.cells)
