use Rattle.std.proofs.Common.{find, sym, ap, ◌∙◌}
use Rattle.rows.specs.Row.{RowSeen}
use Rattle.rows.proofs.RowLemmas.{one_find, none_found}
use Rattle.rows.proofs.row.Row.find.Goals as goal

pub returns-in-Some : goal.returns-in-Some
returns-in-Some g c =
    let i = c.self.inside in
    let test = g.Q.Equivalent.equivalent c.args.query in
    let f = c.in-Some.ensures.found in
    c.get.ensures ∙ f.1 ∙ sym (one_find test i.cells.cells c.in-Some.p f.0 c.in-Some.ensures.apart f.1 f.2).0
    ∙ ap (λ (v : RowSeen g.row.T.Denot). find test v.items) c.self.view_is

pub returns-in-None : goal.returns-in-None
returns-in-None g c =
    let i = c.self.inside in
    let test = g.Q.Equivalent.equivalent c.args.query in
    sym (none_found test i.cells.cells c.in-None.ensures.none).0
    ∙ ap (λ (v : RowSeen g.row.T.Denot). find test v.items) c.self.view_is
