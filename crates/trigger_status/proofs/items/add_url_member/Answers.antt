use Rattle.serde_json.specs.Data.{array}
use Rattle.trigger_status.specs.Items.{each_as, url_data}
use Rattle.trigger_status.proofs.ItemLemmas.{one_added}
use Rattle.trigger_status.proofs.items.add_url_member.Goals as goal

pub returns : goal.returns
returns c = one_added _ _ _ c.args.name.now c.args.later (array (each_as url_data c.args.urls.now)) c.in_ok-add_name.ensures c.in_ok-add_urls.ensures
