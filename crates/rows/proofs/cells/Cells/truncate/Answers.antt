use Rattle.std.proofs.Common.{◌≡◌, [], List, Option, ℕ, take, drop, subst, sym, ap, ◌∙◌}
use Rattle.std.proofs.lemmas.List.{take-map}
use Rattle.rows.specs.Cells.{CellsSeen, AreTied, cell_of, cells_of, present}
use Rattle.rows.proofs.CellLemmas.{tied_cut}
use Rattle.rows.proofs.cells.Cells.truncate.Goals as goal

pub invariant_of-self : goal.invariant_of-self
invariant_of-self g c =
    let i = c.self.inside in
    let none = subst (λ (v : CellsSeen g.row.T.Denot). present (drop c.args.n v.cells) ≡ []) (sym c.self.view_is) c.requires in
    subst (λ (log : List (Option ℕ)). AreTied i.objects.entries log) (sym c.truncate.ensures.items)
    (tied_cut i.objects.entries i.log.items c.self.invariant c.args.n none)

pub returns-clause-cells : goal.returns-clause-cells
returns-clause-cells g c =
    let i = c.self.inside in
    ap (cells_of i.objects.entries) c.truncate.ensures.items
    ∙ sym (take-map (cell_of i.objects.entries) c.args.n i.log.items)
    ∙ ap (λ (v : CellsSeen g.row.T.Denot). take c.args.n v.cells) c.self.view_is
