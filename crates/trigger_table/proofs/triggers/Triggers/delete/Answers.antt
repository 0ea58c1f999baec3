use Rattle.std.proofs.Common.{sym}
use Rattle.trigger_table.proofs.Places.{in_ids, remove_ids}
use Rattle.trigger_table.proofs.Rising.{rising_remove}
use Rattle.trigger_table.proofs.triggers.Triggers.delete.Goals as goal

pub invariant_of-self : goal.invariant_of-self
invariant_of-self c =
    let at = rw (← c.self.view_is) at c.in-Some.ensures in
    rw (c.remove-in-Some.ensures.items, c.remove.ensures.items) (
      rw c.self.invariant.0 (sym (remove_ids c.self.inside.items.items c.in-Some.place)),
      rising_remove _ _ _ _ c.self.invariant.1 (in_ids _ _ c.args.id _ c.self.invariant.0 at),
    )
