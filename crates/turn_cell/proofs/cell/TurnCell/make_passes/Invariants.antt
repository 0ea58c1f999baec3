use Rattle.std.proofs.Common.{◌≡◌, ◌-◌, [], ◌∷◌, map, All}
use Rattle.turn_cell.specs.History.{numbers_from}
use Rattle.turn_cell.specs.View.{maker_with}
use Rattle.turn_cell.specs.Cell.{number_of, numbers_of, seen_of, IsOf}
use Rattle.turn_cell.proofs.cell.TurnCell.make_passes.Given as goal

abbrev pub invariant-loop-number : goal.invariant-loop-number
invariant-loop-number g l = record {
  seat : (l.seat.table_id ≡ l.self.table.shared.table_id) × (l.seat.id ≡ 0);
  left : l.seat.me ≡ (maker_with l.passes (numbers_from l.number (l.passes - l.number)), []);
  numbered : map number_of l.list ≡ numbers_from 0 l.number;
  cell : All (λ pass. IsOf l.self pass) l.list;
  own : All (λ pass. numbers_of pass ≡ number_of pass ∷ []) l.list;
  unseen : All (λ pass. seen_of pass ≡ []) l.list;
}
