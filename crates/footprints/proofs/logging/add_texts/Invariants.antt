use Rattle.std.proofs.Common.{◌≡◌, ◌++◌, false, drop}
use Rattle.serde_json.specs.Written.{items_text}
use Rattle.footprints.specs.Logging.{text_items}
use Rattle.footprints.proofs.logging.add_texts.Given as goal

abbrev pub invariant-items : goal.invariant-items
invariant-items l =
    l.out.items ++ items_text l.later (text_items (drop l.i l.texts)) ≡ l.initial.out.items ++ items_text false (text_items l.texts)
