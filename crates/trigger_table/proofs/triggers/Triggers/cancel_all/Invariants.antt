use Rattle.std.proofs.Common.{◌≡◌, take}
use Rattle.history.specs.Steps.{cancelled}
use Rattle.trigger_table.specs.Triggers.{with_triggers}
use Rattle.trigger_table.proofs.triggers.Triggers.cancel_all.Given as goal

abbrev pub invariant-ids : goal.invariant-ids
invariant-ids l = l.self ≡ with_triggers l.initial.self (cancelled l.moment (take l.i l.ids) l.initial.self.triggers)
