use Rattle.inheritance.proofs.OrderLemmas.{own_types, each_type}
use Rattle.inheritance.proofs.laws.one_object_for_each_type.Goals as goal

pub returns-clause-one : goal.returns-clause-one
returns-clause-one c = own_types

pub returns-clause-each : goal.returns-clause-each
returns-clause-each c = each_type
