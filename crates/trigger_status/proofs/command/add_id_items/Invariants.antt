use Rattle.std.proofs.Common.{◌≡◌, ◌++◌, false, drop}
use Rattle.serde_json.specs.Written.{items_text}
use Rattle.trigger_status.specs.Command.{id_data}
use Rattle.trigger_status.specs.Items.{each_as}
use Rattle.trigger_status.proofs.command.add_id_items.Given as goal

abbrev pub invariant-items : goal.invariant-items
invariant-items l =
    l.out.items ++ items_text l.later (each_as id_data (drop l.i l.ids)) ≡ l.initial.out.items ++ items_text false (each_as id_data l.ids)
