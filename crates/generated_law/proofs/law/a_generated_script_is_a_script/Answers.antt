use Rattle.generated_law.proofs.RoundLemmas.{script_is}
use Rattle.generated_law.proofs.law.a_generated_script_is_a_script.Goals as goal

pub returns : goal.returns
returns c = script_is
