use Rattle.std.proofs.Common.{◌≡◌, drop, map}
use Rattle.serde_json.specs.View.{items_of}
use Rattle.metadata_links.specs.Finding.{each_item, in_generic}
use Rattle.metadata_links.proofs.finding.list_each_generic.Given as goal

abbrev pub invariant-items : goal.invariant-items
invariant-items g l = each_item (in_generic l.base l.depth) l.path l.i l.links (items_of (map g.V.JsonValue.seen (drop l.i l.items))) ≡ each_item (in_generic l.base l.depth) l.path 0 l.fn.before (items_of (map g.V.JsonValue.seen l.items))
