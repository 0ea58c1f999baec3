use Rattle.std.proofs.Common.{◌≡◌, ◌++◌, length, reverse}
use Rattle.doors.proofs.memory_door.turned.Given as goal

abbrev pub invariant-items : goal.invariant-items
invariant-items g l = record { parts : l.initial.left ≡ l.left ++ reverse l.turned.items }

abbrev pub decreases-items : goal.decreases-items
decreases-items g l = length l.left
