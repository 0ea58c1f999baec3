use Rattle.delivery_law.proofs.LogLaw.{row_of_each, row_of_one, rows_apart}
use Rattle.delivery_law.proofs.log_rows.each_row_belongs_to_one_finish_and_one_admit.Goals as goal

pub returns-clause-one : goal.returns-clause-one
returns-clause-one c = row_of_one

pub returns-clause-apart : goal.returns-clause-apart
returns-clause-apart c = rows_apart

pub returns-clause-each : goal.returns-clause-each
returns-clause-each c = row_of_each
