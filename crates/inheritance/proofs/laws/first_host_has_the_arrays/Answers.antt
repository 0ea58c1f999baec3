use Rattle.inheritance.proofs.Chains.{chain_same, none_same}
use Rattle.inheritance.proofs.laws.first_host_has_the_arrays.Goals as goal

pub returns-clause-arrays : goal.returns-clause-arrays
returns-clause-arrays c = chain_same

pub returns-clause-none : goal.returns-clause-none
returns-clause-none c = none_same
