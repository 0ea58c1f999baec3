use Rattle.std.proofs.Common.{◌≡◌, ◌++◌, false, drop}
use Rattle.serde_json.specs.Written.{items_text}
use Rattle.trigger_status.specs.Items.{each_as}
use Rattle.control_request.specs.Lists.{number_data}
use Rattle.control_request.proofs.lists.add_numbers.Given as goal

abbrev pub invariant-items : goal.invariant-items
invariant-items l =
    l.out.items ++ items_text l.later (each_as number_data (drop l.i l.numbers)) ≡ l.initial.out.items ++ items_text false (each_as number_data l.numbers)
