use Rattle.inheritance.proofs.Chains.{levels_same}
use Rattle.inheritance.proofs.laws.each_level_has_one_array.Goals as goal

pub returns : goal.returns
returns c = levels_same
