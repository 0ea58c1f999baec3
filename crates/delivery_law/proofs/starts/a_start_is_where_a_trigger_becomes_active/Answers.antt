use Rattle.delivery_law.proofs.StartLaw.{each_active, each_start}
use Rattle.delivery_law.proofs.starts.a_start_is_where_a_trigger_becomes_active.Goals as goal

pub returns-clause-each : goal.returns-clause-each
returns-clause-each c = each_start

pub returns-clause-every : goal.returns-clause-every
returns-clause-every c = each_active
