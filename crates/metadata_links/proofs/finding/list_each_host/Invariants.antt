use Rattle.std.proofs.Common.{◌≡◌, drop, map}
use Rattle.serde_json.specs.View.{items_of}
use Rattle.metadata_links.specs.Finding.{each_item, in_host}
use Rattle.metadata_links.proofs.finding.list_each_host.Given as goal

abbrev pub invariant-items : goal.invariant-items
invariant-items g l = each_item (in_host l.base) l.path l.i l.links (items_of (map g.V.JsonValue.seen (drop l.i l.items))) ≡ each_item (in_host l.base) l.path 0 l.fn.before (items_of (map g.V.JsonValue.seen l.items))
