use Rattle.std.proofs.Common.{◌≡◌, ◌≤◌, drop, length, None}
use Rattle.metadata_links.specs.Filled.{last_of}
use Rattle.metadata_links.proofs.joining.last_of.Given as goal

abbrev pub decreases-members : goal.decreases-members
decreases-members l = l.left

abbrev pub invariant-members : goal.invariant-members
invariant-members l = record {
  within : l.left ≤ length l.members;
  none : last_of l.name (drop l.left l.members) ≡ None;
}
