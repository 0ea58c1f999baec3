use Rattle.std.proofs.Common.{rules}
use Rattle.trigger_status.specs.Items.{url_data}
use Rattle.trigger_status.proofs.ItemLemmas.{list_added}
use Rattle.trigger_status.proofs.items.add_url_list.Goals as goal

pub returns : goal.returns
returns c = list_added url_data c.args.urls.now _ _ _ c.args.name.now c.args.later (search rules) c.in_ok-add_name.ensures c.in_ok-add_urls.ensures
