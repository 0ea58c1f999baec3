use Rattle.std.proofs.Common.{None, get_or, length, slice_get, arith, sym, ap, ◌∙◌}
use Rattle.rows.specs.Row.{RowSeen}
use Rattle.rows.proofs.RowLemmas.{index_placed, item_at}
use Rattle.rows.proofs.row.Row.next.Goals as goal

pub returns : goal.returns
returns g c =
    let i = c.self.inside in
    let p = c.next_place-place.result in
    let o = item_at (get_or i.cells.cells p None)
    (c.next_place-place.ensures.there (omega (arith, c.next_place-place.ensures.within, c.if-place-len.false, c.len.ensures))) in
    c.get.ensures ∙ o.1
    ∙ sym (index_placed i.cells.cells p c.args.self.now.passed o.0 (ap length c.next_place-place.ensures.same ∙ ap (λ (v : RowSeen g.row.T.Denot). v.passed) c.self.view_is) o.1).0
    ∙ ap (λ (v : RowSeen g.row.T.Denot). slice_get v.items c.args.self.now.passed) c.self.view_is
