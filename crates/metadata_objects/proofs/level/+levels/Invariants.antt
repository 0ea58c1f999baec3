use Rattle.std.proofs.Common.{◌≡◌, ◌+◌, ◌*◌, drop, map}
use Rattle.serde_json.specs.View.{items_of}
use Rattle.metadata_objects.specs.Level.{path_match_of}
use Rattle.metadata_objects.specs.Reading.{all_of}
use Rattle.metadata_objects.specs.LevelData.{paths_view}
use Rattle.metadata_objects.proofs.Loops.{with_front}
use Rattle.metadata_objects.proofs.level.+levels.Given as goal

abbrev pub decreases-level_at_member : goal.decreases-level_at_member
decreases-level_at_member g l = l.left * 6 + 5

abbrev pub decreases-level_at : goal.decreases-level_at
decreases-level_at g l = l.left * 6 + 4

abbrev pub decreases-paths_at : goal.decreases-paths_at
decreases-paths_at g l = l.left * 6 + 3

abbrev pub decreases-path_matches_at : goal.decreases-path_matches_at
decreases-path_matches_at g l = l.left * 6 + 2

abbrev pub decreases-path_match_at : goal.decreases-path_match_at
decreases-path_match_at g l = l.left * 6 + 1

abbrev pub decreases-path_match_within : goal.decreases-path_match_within
decreases-path_match_within g l = l.left * 6 + 6

abbrev pub invariant-path_matches_at-items : goal.invariant-path_matches_at-items
invariant-path_matches_at-items g l = with_front (paths_view l.list.items) (all_of (path_match_of l.left) l.path l.i l.so_far (items_of (map g.V.JsonValue.seen (drop l.i l.items)))) ≡ all_of (path_match_of l.left) l.path 0 l.count (items_of (map g.V.JsonValue.seen l.items))
