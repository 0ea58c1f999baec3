use Rattle.session_base.proofs.OpenLemmas.{is_ended}
use Rattle.session_base.proofs.delivery.end_open.Goals as goal

pub returns-clause-made : goal.returns-clause-made
returns-clause-made g c = is_ended c.call.result _ _ _ _ c.call.ensures.seen c.call.ensures.ended
