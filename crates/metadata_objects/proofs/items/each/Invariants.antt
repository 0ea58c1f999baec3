use Rattle.std.proofs.Common.{◌≡◌, drop, map}
use Rattle.serde_json.specs.View.{items_of}
use Rattle.metadata_objects.specs.Items.{each_of}
use Rattle.metadata_objects.proofs.Loops.{after_front}
use Rattle.metadata_objects.proofs.items.each.Given as goal

abbrev pub invariant-items : goal.invariant-items
invariant-items g l = after_front l.list (each_of g.T.Item.reads (items_of (map g.V.JsonValue.seen (drop l.i l.items)))) ≡ each_of g.T.Item.reads (items_of (map g.V.JsonValue.seen l.items))
