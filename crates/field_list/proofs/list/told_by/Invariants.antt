use Rattle.std.proofs.Common.{◌≡◌, take}
use Rattle.std.specs.List.{fold}
use Rattle.field_list.specs.List.{items_of}
use Rattle.field_list.proofs.list.told_by.Given as goal

abbrev pub invariant-fields : goal.invariant-fields
invariant-fields g l = l.told ≡ fold g.T.Told.after l.fn.start (items_of l.name (take l.i (g.F.FieldLines.lines l.head)))
