use Rattle.std.proofs.Common.{List, Option, ℕ, subst, sym}
use Rattle.rows.specs.Cells.{AreTied}
use Rattle.rows.proofs.CellLemmas.{tied_gap}
use Rattle.rows.proofs.cells.Cells.push_gap.Goals as goal

pub invariant_of-self : goal.invariant_of-self
invariant_of-self g c =
    let i = c.self.inside in
    subst (λ (log : List (Option ℕ)). AreTied i.objects.entries log) (sym c.push_reserved.ensures.items)
    (tied_gap i.objects.entries i.log.items c.self.invariant)
