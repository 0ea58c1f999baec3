use Rattle.serde_json.specs.Data.{array}
use Rattle.trigger_status.specs.Items.{each_as, url_at}
use Rattle.trigger_status.proofs.ItemLemmas.{one_added}
use Rattle.trigger_status.proofs.items.add_place_member.Goals as goal

pub returns : goal.returns
returns c = one_added _ _ _ c.args.name.now c.args.later (array (each_as (url_at c.args.urls.now) c.args.places.now)) c.in_ok-add_name.ensures c.in_ok-add_places.ensures
