use Rattle.std.proofs.Common.{false, codes}
use Rattle.serde_json.specs.Data.{array}
use Rattle.trigger_status.specs.Command.{id_data}
use Rattle.trigger_status.specs.Items.{each_as}
use Rattle.trigger_status.proofs.ItemLemmas.{one_added}
use Rattle.trigger_status.proofs.command.add_path.Goals as goal

pub returns : goal.returns
returns c = one_added _ _ _ (codes "cdn-path") false (array (each_as id_data c.args.path.now)) c.in_ok-add_name.ensures c.in_ok-add_ids.ensures
