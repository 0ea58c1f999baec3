use Rattle.std.specs.Vec.Iter.{into_iter_items}
use Rattle.metadata_links.specs.Filled.{all_seen}
use Rattle.metadata_links.specs.Joined.{host_filled}
use Rattle.metadata_links.proofs.Items.{Filled}
use Rattle.metadata_links.proofs.joining.fill_each_host.Given as goal

abbrev pub invariant-items : goal.invariant-items
invariant-items l = Filled host_filled l.fn.hosts.items (all_seen (into_iter_items l.initial.documents)) l.i l.items.items (all_seen (into_iter_items l.documents))
