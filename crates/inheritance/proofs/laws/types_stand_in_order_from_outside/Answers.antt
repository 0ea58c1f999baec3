use Rattle.inheritance.proofs.OrderLemmas.{in_order}
use Rattle.inheritance.proofs.laws.types_stand_in_order_from_outside.Goals as goal

pub returns : goal.returns
returns c = in_order
