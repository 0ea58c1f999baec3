use Rattle.std.proofs.Common.{◌≡◌, drop}
use Rattle.trigger_cascade.specs.Order.{differ}
use Rattle.trigger_cascade.proofs.order.differ.Given as goal

abbrev pub invariant-cdns : goal.invariant-cdns
invariant-cdns l = differ (drop l.i l.cdns) ≡ differ l.cdns
