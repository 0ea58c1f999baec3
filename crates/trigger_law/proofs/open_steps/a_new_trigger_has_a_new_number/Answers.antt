use Rattle.trigger_law.proofs.NumberLemmas.{number_is_new}
use Rattle.trigger_law.proofs.open_steps.a_new_trigger_has_a_new_number.Goals as goal

pub returns : goal.returns
returns c = number_is_new
