use Rattle.std.proofs.Common.{◌≡◌, ◌++◌, false, drop}
use Rattle.serde_json.specs.Written.{items_text}
use Rattle.trigger_status.specs.Items.{each_as}
use Rattle.control_request.specs.Lists.{status_data}
use Rattle.control_request.proofs.lists.add_statuses.Given as goal

abbrev pub invariant-items : goal.invariant-items
invariant-items l =
    l.out.items ++ items_text l.later (each_as status_data (drop l.i l.list)) ≡ l.initial.out.items ++ items_text false (each_as status_data l.list)
