use Rattle.std.proofs.Common.{◌<◌, is_some, length, ap, sym, subst, ◌∙◌, get_or, None}
use Rattle.rows.specs.Cells.{CellsSeen}
use Rattle.rows.proofs.CellLemmas.{read_at, has_item}
use Rattle.rows.proofs.cells.Cells.has.Goals as goal

pub returns : goal.returns
returns g c =
    let i = c.self.inside in
    let l = subst (λ (v : CellsSeen g.row.T.Denot). c.args.p < length v.cells) (sym c.self.view_is) c.requires in
    c.is_some.ensures ∙ ap is_some (sym (read_at i.objects.entries i.log.items c.args.p c.index.result.now l c.index.ensures))
    ∙ has_item i.objects.entries i.log.items c.self.invariant c.args.p
    ∙ ap (λ (v : CellsSeen g.row.T.Denot). is_some (get_or v.cells c.args.p None)) c.self.view_is
