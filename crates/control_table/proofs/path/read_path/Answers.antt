use Rattle.control_table.proofs.PathLemmas.{is_filter}
use Rattle.control_table.proofs.path.read_path.Goals as goal

pub returns-in-Some-clause-complete : goal.returns-in-Some-clause-complete
returns-in-Some-clause-complete c = is_filter c.args.path.now c.in-Some.filter c.in-Some.ensures.found
