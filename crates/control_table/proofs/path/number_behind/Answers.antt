use Rattle.control_table.proofs.PathLemmas.{found_behind, none_behind_as, only_behind}
use Rattle.control_table.proofs.path.number_behind.Goals as goal

pub returns-clause-complete : goal.returns-clause-complete
returns-clause-complete c = λ number small same.
    c.read_decimal.ensures.complete number small (only_behind c.args.front.now c.args.path.now c.in_ok-rest.rest c.in_ok-rest.ensures number same)

pub returns-clause-found : goal.returns-clause-found
returns-clause-found c = found_behind c.args.front.now c.args.path.now c.in_ok-rest.rest c.read_decimal.result c.in_ok-rest.ensures c.read_decimal.ensures.written

pub returns-in_err-rest-clause-complete : goal.returns-in_err-rest-clause-complete
returns-in_err-rest-clause-complete c = λ number small same. none_behind_as c.args.front.now c.args.path.now c.from_residual.result c.from_residual.ensures c.in_err-rest.ensures number same
