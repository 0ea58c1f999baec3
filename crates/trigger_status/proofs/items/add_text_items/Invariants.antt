use Rattle.std.proofs.Common.{◌≡◌, ◌++◌, false, drop}
use Rattle.serde_json.specs.Written.{items_text}
use Rattle.serde_json.specs.Data.{string}
use Rattle.trigger_status.specs.Items.{each_as}
use Rattle.trigger_status.proofs.items.add_text_items.Given as goal

abbrev pub invariant-items : goal.invariant-items
invariant-items l =
    l.out.items ++ items_text l.later (each_as string (drop l.i l.texts)) ≡ l.initial.out.items ++ items_text false (each_as string l.texts)
