use Rattle.serde_json.specs.Data.{number, unsigned}
use Rattle.trigger_status.proofs.ItemLemmas.{one_added}
use Rattle.trigger_status.proofs.write.add_number_member.Goals as goal

pub returns : goal.returns
returns c = one_added _ _ _ c.args.name.now c.args.later (number (unsigned c.args.count)) c.in_ok-add_name.ensures c.in_ok-add_number.ensures
