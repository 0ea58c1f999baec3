use Rattle.targets.proofs.TargetLemmas.{one_target}
use Rattle.targets.proofs.laws.a_text_has_one_target.Goals as goal

pub returns : goal.returns
returns c = one_target
