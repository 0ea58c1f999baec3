use Rattle.std.proofs.Common.{◌≡◌, drop}
use Rattle.history.specs.Steps.{first_unknown}
use Rattle.trigger_table.proofs.triggers.Triggers.first_unknown.Given as goal

abbrev pub invariant-ids : goal.invariant-ids
invariant-ids l = first_unknown l.self.triggers l.ids ≡ first_unknown l.self.triggers (drop l.i l.ids)
