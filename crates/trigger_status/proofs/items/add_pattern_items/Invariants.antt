use Rattle.std.proofs.Common.{◌≡◌, ◌++◌, false, drop}
use Rattle.serde_json.specs.Written.{items_text}
use Rattle.trigger_status.specs.Items.{each_as, pattern_data}
use Rattle.trigger_status.proofs.items.add_pattern_items.Given as goal

abbrev pub invariant-items : goal.invariant-items
invariant-items l =
    l.out.items ++ items_text l.later (each_as pattern_data (drop l.i l.patterns)) ≡ l.initial.out.items ++ items_text false (each_as pattern_data l.patterns)
