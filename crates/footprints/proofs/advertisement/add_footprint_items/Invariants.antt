use Rattle.std.proofs.Common.{◌≡◌, ◌++◌, false, drop}
use Rattle.serde_json.specs.Written.{items_text}
use Rattle.footprints.specs.Advertisement.{footprint_items}
use Rattle.footprints.proofs.advertisement.add_footprint_items.Given as goal

abbrev pub invariant-items : goal.invariant-items
invariant-items l =
    l.out.items ++ items_text l.later (footprint_items (drop l.i l.footprints)) ≡ l.initial.out.items ++ items_text false (footprint_items l.footprints)
