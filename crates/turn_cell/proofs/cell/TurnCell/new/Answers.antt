use Rattle.std.proofs.Common.{rules, ◌∷◌, [], ◌++◌, Some, sym, ap, ◌∙◌, subst}
use Rattle.atomic_table.specs.Table.{opening}
use Rattle.turn_cell.specs.View.{maker}
use Rattle.turn_cell.specs.Rule.{Kept}
use Rattle.turn_cell.proofs.Passes.{opens}
use Rattle.turn_cell.proofs.cell.TurnCell.new.Goals as goal

pub new-requires : goal.new-requires
new-requires g c =
    let n = c.args.passes in
    let slots = c.in_ok-push.ensures.items ∙ ap (λ l. l ++ Some c.args.value ∷ []) c.in_ok-slots.ensures.items in
    subst (λ l. Kept g.V.Stands.stands n (opening (0 ∷ 0 ∷ []) l (maker n))) (sym slots) (opens g.V.Stands.stands n c.args.value (search rules) c.requires)
