use Rattle.std.proofs.Common.{rules, ◌-◌, ◌+◌, ap}
use Rattle.turn_cell.proofs.Seats.{cut_me}
use Rattle.turn_cell.proofs.Passes.{cuts, maker_left}
use Rattle.turn_cell.proofs.cell.TurnCell.make_pass.Goals as goal

pub split_seat-cut-requires : goal.split_seat-cut-requires
split_seat-cut-requires g c =
    let n = c.args.self.now.table.shared.key in
    let x = c.args.number in
    (search rules, search rules, cuts g.V.Stands.stands _ _ _ n x (n - (x + 1)) (maker_left _ n x c.requires.below (ap (λ m. m.0) c.requires.numbers)))

pub returns-clause-numbers : goal.returns-clause-numbers
returns-clause-numbers g c =
    let n = c.args.self.now.table.shared.key in
    let x = c.args.number in
    cut_me _ _ n x (n - (x + 1)) (maker_left _ n x c.requires.below (ap (λ m. m.0) c.requires.numbers)) (ap (λ m. m.1) c.requires.numbers) c.split_seat-cut.ensures.2
