use Rattle.std.proofs.Common.{◌≡◌, ◌++◌, false, drop}
use Rattle.serde_json.specs.Written.{items_text}
use Rattle.trigger_status.specs.Items.{each_as, url_at}
use Rattle.trigger_status.proofs.items.add_place_items.Given as goal

abbrev pub invariant-items : goal.invariant-items
invariant-items l =
    l.out.items ++ items_text l.later (each_as (url_at l.urls) (drop l.i l.places)) ≡ l.initial.out.items ++ items_text false (each_as (url_at l.urls) l.places)
