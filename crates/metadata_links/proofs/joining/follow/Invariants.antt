use Rattle.std.proofs.Common.{◌≡◌, length}
use Rattle.std.specs.Vec.Iter.{into_iter_items}
use Rattle.metadata_links.specs.Filled.{seen, all_seen}
use Rattle.metadata_links.specs.Joined.{followed}
use Rattle.metadata_links.proofs.joining.follow.Given as goal

abbrev pub decreases-links : goal.decreases-links
decreases-links l = length (into_iter_items l.documents)

abbrev pub invariant-links : goal.invariant-links
invariant-links l = followed (seen l.fn.link) (all_seen (into_iter_items l.initial.documents)) ≡ followed (seen l.value) (all_seen (into_iter_items l.documents))
