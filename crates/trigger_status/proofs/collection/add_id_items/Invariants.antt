use Rattle.std.proofs.Common.{◌≡◌, ◌++◌, false, drop}
use Rattle.serde_json.specs.Written.{items_text}
use Rattle.trigger_status.specs.Collection.{trigger_url}
use Rattle.trigger_status.specs.Items.{each_as}
use Rattle.trigger_status.proofs.collection.add_id_items.Given as goal

abbrev pub invariant-items : goal.invariant-items
invariant-items l =
    l.out.items ++ items_text l.later (each_as (trigger_url l.control) (drop l.i l.ids)) ≡ l.initial.out.items ++ items_text false (each_as (trigger_url l.control) l.ids)
