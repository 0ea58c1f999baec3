use Rattle.std.proofs.Common.{◌≡◌, take}
use Rattle.history.specs.Steps.{listed}
use Rattle.trigger_table.proofs.triggers.listed.Given as goal

abbrev pub invariant-items : goal.invariant-items
invariant-items l = l.ids ≡ listed l.filter (take l.i l.items)
