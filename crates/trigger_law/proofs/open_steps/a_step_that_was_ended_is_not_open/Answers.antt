use Rattle.trigger_law.proofs.OpenLemmas.{open_step}
use Rattle.trigger_law.proofs.open_steps.a_step_that_was_ended_is_not_open.Goals as goal

pub returns : goal.returns
returns c = open_step
