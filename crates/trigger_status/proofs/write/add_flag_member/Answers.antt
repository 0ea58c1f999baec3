use Rattle.serde_json.specs.Data.{boolean}
use Rattle.trigger_status.proofs.ItemLemmas.{one_added}
use Rattle.trigger_status.proofs.write.add_flag_member.Goals as goal

pub returns : goal.returns
returns c = one_added _ _ _ c.args.name.now c.args.later (boolean c.args.flag) c.in_ok-add_name.ensures c.in_ok-add_flag.ensures
