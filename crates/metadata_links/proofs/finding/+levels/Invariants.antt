use Rattle.std.proofs.Common.{◌≡◌, ◌+◌, ◌*◌, drop, map}
use Rattle.serde_json.specs.View.{items_of}
use Rattle.metadata_links.specs.Finding.{each_item, in_path}
use Rattle.metadata_links.proofs.finding.+levels.Given as goal

abbrev pub invariant-list_each_path-items : goal.invariant-list_each_path-items
invariant-list_each_path-items g l = each_item (in_path l.base l.left l.depth) l.path l.i l.links (items_of (map g.V.JsonValue.seen (drop l.i l.items))) ≡ each_item (in_path l.base l.left l.depth) l.path 0 l.fn.before (items_of (map g.V.JsonValue.seen l.items))

abbrev pub decreases-list_level_at : goal.decreases-list_level_at
decreases-list_level_at g l = l.left * 8 + 6

abbrev pub decreases-list_level : goal.decreases-list_level
decreases-list_level g l = l.left * 8 + 5

abbrev pub decreases-list_members : goal.decreases-list_members
decreases-list_members g l = l.left * 8 + 4

abbrev pub decreases-list_paths_at : goal.decreases-list_paths_at
decreases-list_paths_at g l = l.left * 8 + 3

abbrev pub decreases-list_paths : goal.decreases-list_paths
decreases-list_paths g l = l.left * 8 + 2

abbrev pub decreases-list_each_path : goal.decreases-list_each_path
decreases-list_each_path g l = l.left * 8 + 1

abbrev pub decreases-list_path : goal.decreases-list_path
decreases-list_path g l = l.left * 8

abbrev pub decreases-list_path_within : goal.decreases-list_path_within
decreases-list_path_within g l = l.left * 8 + 7
