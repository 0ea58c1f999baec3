use Rattle.std.proofs.Common.{◌≡◌, drop, map}
use Rattle.serde_json.specs.View.{items_of}
use Rattle.metadata_objects.specs.Reading.{all_of}
use Rattle.metadata_objects.specs.Host.{host_match_of, hosts_of}
use Rattle.metadata_objects.specs.LevelData.{hosts_view}
use Rattle.metadata_objects.proofs.Loops.{with_front}
use Rattle.metadata_objects.proofs.host.hosts_at.Given as goal

abbrev pub invariant-items : goal.invariant-items
invariant-items g l = with_front (hosts_view l.list) (all_of host_match_of l.path l.i l.so_far (items_of (map g.V.JsonValue.seen (drop l.i l.items)))) ≡ hosts_of l.path l.count (items_of (map g.V.JsonValue.seen l.items))
