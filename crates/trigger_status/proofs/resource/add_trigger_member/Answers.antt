use Rattle.trigger_status.specs.Job.{trigger_data}
use Rattle.std.proofs.Common.{true, codes}
use Rattle.trigger_status.proofs.ItemLemmas.{one_added}
use Rattle.trigger_status.proofs.resource.add_trigger_member.Goals as goal

pub returns : goal.returns
returns c = one_added _ _ _ (codes "trigger") true (trigger_data c.args.spec.now) c.in_ok-add_name.ensures c.in_ok-add_trigger.ensures
