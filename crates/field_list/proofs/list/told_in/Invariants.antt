use Rattle.std.proofs.Common.{◌≡◌, length}
use Rattle.std.specs.List.{fold}
use Rattle.field_list.specs.List.{items_in}
use Rattle.field_list.proofs.list.told_in.Given as goal

abbrev pub invariant-items : goal.invariant-items
invariant-items g l = fold g.T.Told.after l.told (items_in l.rest) ≡ fold g.T.Told.after l.fn.start (items_in l.value)

abbrev pub decreases-items : goal.decreases-items
decreases-items g l = length l.rest
