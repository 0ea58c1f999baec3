use Rattle.std.proofs.Common.{slice_get, arith, sym, ap, ◌∙◌}
use Rattle.rows.specs.Row.{RowSeen}
use Rattle.rows.proofs.RowLemmas.{first_get}
use Rattle.rows.proofs.row.Row.first.Goals as goal

pub returns : goal.returns
returns g c =
    let i = c.self.inside in
    let p = c.first_place-p.result in
    c.get.ensures
    ∙ sym (first_get i.cells.cells p c.first_place-p.ensures.gone
    (c.first_place-p.ensures.there (omega (arith, c.first_place-p.ensures.within, c.if-p-len.false, c.len.ensures))))
    ∙ ap (λ (v : RowSeen g.row.T.Denot). slice_get v.items 0) c.self.view_is
