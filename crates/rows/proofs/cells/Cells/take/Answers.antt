use Rattle.std.proofs.Common.{◌≡◌, ◌<◌, None, length, get_or, set, subst, sym, ap, ◌∙◌}
use Rattle.std.proofs.lemmas.List.{set-get_or}
use Rattle.rows.specs.Cells.{CellsSeen, cell_of, cells_of}
use Rattle.rows.proofs.CellLemmas.{read_at, cell_at}
use Rattle.rows.proofs.cells.Cells.take.Goals as goal

pub returns-in-None-clause-cells : goal.returns-in-None-clause-cells
returns-in-None-clause-cells g c =
    let i = c.self.inside in
    let p = c.args.p in
    let cells = cells_of i.objects.entries i.log.items in
    let l = subst (λ (v : CellsSeen g.row.T.Denot). p < length v.cells) (sym c.self.view_is) c.requires in
    let none : get_or cells p None ≡ None =
    cell_at i.objects.entries i.log.items p
    ∙ ap (cell_of i.objects.entries) (read_at i.objects.entries i.log.items p c.index.result.now l c.index.ensures ∙ c.in-None.is) in
    ap (λ (v : CellsSeen g.row.T.Denot). v.cells) (sym c.self.view_is) ∙ sym (set-get_or cells p None) ∙ ap (λ c. set cells p c) none ∙ ap (λ (v : CellsSeen g.row.T.Denot). set v.cells p None) c.self.view_is
