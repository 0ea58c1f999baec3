use Rattle.trigger_law.proofs.FinalLemmas.{final_since}
use Rattle.trigger_law.proofs.final_triggers.a_final_trigger_stays_final.Goals as goal

pub returns : goal.returns
returns c = final_since
