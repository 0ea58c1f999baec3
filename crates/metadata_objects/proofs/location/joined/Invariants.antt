use Rattle.std.proofs.Common.{◌≡◌, drop, map, option_map}
use Rattle.serde_json.specs.View.{items_of}
use Rattle.metadata_objects.specs.Items.{each_of}
use Rattle.metadata_objects.specs.Lists.{footprints_in, joined}
use Rattle.metadata_objects.proofs.Loops.{after_joined}
use Rattle.metadata_objects.proofs.location.joined.Given as goal

abbrev pub invariant-items : goal.invariant-items
invariant-items g l = after_joined l.all (each_of footprints_in (items_of (map g.V.JsonValue.seen (drop l.i l.items)))) ≡ option_map joined (each_of footprints_in (items_of (map g.V.JsonValue.seen l.items)))
