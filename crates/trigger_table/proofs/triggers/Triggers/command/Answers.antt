use Rattle.std.proofs.Common.{arith}
use Rattle.trigger_table.proofs.Places.{push_ids}
use Rattle.trigger_table.proofs.Rising.{rising_push}
use Rattle.trigger_table.proofs.triggers.Triggers.command.Goals as goal

pub invariant_of-self-2 : goal.invariant_of-self-2
invariant_of-self-2 c = rw (c.push_reserved-2.ensures.items, c.push_reserved.ensures.items, c.in_ok-reserve.ensures.items, c.in_ok-reserve-2.ensures.items, c.in_ok-state.ensures) (
  push_ids _ _ _ c.self.invariant.0,
  rising_push _ _ _ _ c.self.invariant.1 (omega arith),
)
