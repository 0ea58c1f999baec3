use Rattle.std.proofs.Common.{rules}
use Rattle.turn_cell.proofs.Steps.{passes_on}
use Rattle.turn_cell.proofs.cell.TurnCell.pass_on.Goals as goal

pub fetch_add-served-requires : goal.fetch_add-served-requires
fetch_add-served-requires g c = (search rules, search rules, passes_on g.V.Stands.stands _ _ _ _ _ _ c.requires.turn c.requires.own c.requires.value)
