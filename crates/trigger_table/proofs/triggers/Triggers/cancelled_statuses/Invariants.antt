use Rattle.std.proofs.Common.{◌≡◌, take}
use Rattle.trigger_table.specs.Triggers.{cancelled_statuses}
use Rattle.trigger_table.proofs.triggers.Triggers.cancelled_statuses.Given as goal

abbrev pub invariant-ids : goal.invariant-ids
invariant-ids l = l.statuses ≡ cancelled_statuses l.self.triggers (take l.i l.ids)
