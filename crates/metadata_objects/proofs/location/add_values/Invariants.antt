use Rattle.std.proofs.Common.{◌≡◌, drop, map}
use Rattle.serde_json.specs.View.{items_of}
use Rattle.metadata_objects.specs.Items.{each_of}
use Rattle.metadata_objects.specs.Lists.{footprint_value_in}
use Rattle.metadata_objects.proofs.Loops.{after_front}
use Rattle.metadata_objects.proofs.location.add_values.Given as goal

abbrev pub invariant-items : goal.invariant-items
invariant-items g l = after_front l.all (each_of (footprint_value_in l.kind) (items_of (map g.V.JsonValue.seen (drop l.i l.items)))) ≡ after_front l.initial.all (each_of (footprint_value_in l.kind) (items_of (map g.V.JsonValue.seen l.items)))
