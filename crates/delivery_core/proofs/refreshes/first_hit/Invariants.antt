use Rattle.std.proofs.Common.{◌≡◌, drop}
use Rattle.delivery_core.specs.Refreshes.{first_noted}
use Rattle.delivery_core.proofs.refreshes.first_hit.Given as goal

abbrev pub invariant-starts : goal.invariant-starts
invariant-starts l =
    first_noted l.resources (drop l.i l.starts.stored) ≡ first_noted l.resources (drop l.from l.starts.stored)
