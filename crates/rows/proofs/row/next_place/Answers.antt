use Rattle.std.proofs.Common.{arith, sym, ◌∙◌}
use Rattle.rows.proofs.RowLemmas.{same_more}
use Rattle.rows.proofs.row.next_place.Goals as goal

pub places-preserved : goal.places-preserved
places-preserved g c =
    same_more c.args.cells.now.cells c.places.p (omega (arith, c.places-test.true, c.len-p-end.ensures)) (sym c.has.ensures ∙ c.if-has.false)
    ∙ c.places.invariant
