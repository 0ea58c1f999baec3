use Rattle.std.proofs.Common.{◌+◌, ◌*◌}
use Rattle.std.specs.Vec.Iter.{into_iter_items}
use Rattle.metadata_links.specs.Filled.{all_seen}
use Rattle.metadata_links.specs.Joined.{path_filled}
use Rattle.metadata_links.proofs.Items.{Filled}
use Rattle.metadata_links.proofs.joining.+filling.Given as goal

abbrev pub invariant-fill_each_path-items : goal.invariant-fill_each_path-items
invariant-fill_each_path-items l = Filled (path_filled l.left) l.fn.paths.items (all_seen (into_iter_items l.initial.documents)) l.i l.items.items (all_seen (into_iter_items l.documents))

abbrev pub decreases-fill_level_at : goal.decreases-fill_level_at
decreases-fill_level_at l = l.left * 9 + 7

abbrev pub decreases-fill_level_in : goal.decreases-fill_level_in
decreases-fill_level_in l = l.left * 9 + 6

abbrev pub decreases-fill_level : goal.decreases-fill_level
decreases-fill_level l = l.left * 9 + 5

abbrev pub decreases-fill_paths_at : goal.decreases-fill_paths_at
decreases-fill_paths_at l = l.left * 9 + 4

abbrev pub decreases-fill_paths_in : goal.decreases-fill_paths_in
decreases-fill_paths_in l = l.left * 9 + 3

abbrev pub decreases-fill_paths : goal.decreases-fill_paths
decreases-fill_paths l = l.left * 9 + 2

abbrev pub decreases-fill_each_path : goal.decreases-fill_each_path
decreases-fill_each_path l = l.left * 9 + 1

abbrev pub decreases-fill_path : goal.decreases-fill_path
decreases-fill_path l = l.left * 9 + 0

abbrev pub decreases-fill_path_within : goal.decreases-fill_path_within
decreases-fill_path_within l = l.left * 9 + 8
