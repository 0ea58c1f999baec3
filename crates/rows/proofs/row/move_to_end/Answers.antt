use Rattle.std.proofs.Common.{List, Option, None, get_or, ap, ◌∙◌}
use Rattle.rows.specs.Cells.{slid}
use Rattle.rows.proofs.RowLemmas.{moved_last}
use Rattle.rows.proofs.row.move_to_end.Goals as goal

pub returns-clause-moved : goal.returns-clause-moved
returns-clause-moved g c =
    let p = c.args.p in
    λ o h. moved_last c.args.cells.now.cells c.slide.new.self.cells p c.len-to.result o c.requires.within c.len-to.ensures h
    (c.slide.ensures.cells ∙ ap (λ (xs : List (Option g.row.T.Denot)). slid xs p c.len-to.result (get_or xs p None)) c.push_gap.ensures.cells)
