use Rattle.targets.proofs.TargetFronts.{target_stands}
use Rattle.targets.proofs.TargetLemmas.{target_answers}
use Rattle.targets.proofs.target.Target.read.Goals as goal

pub returns-clause-grammar : goal.returns-clause-grammar
returns-clause-grammar c = target_answers _ _ _ _ c.read_target.ensures

pub returns-clause-place : goal.returns-clause-place
returns-clause-place c = target_stands _ _ _ _ c.read_target.ensures
