use Rattle.log_audit.proofs.FileLemmas.{bad_line_is}
use Rattle.log_audit.proofs.laws.a_bad_line_is_the_first_that_nothing_mends.Goals as goal

pub returns : goal.returns
returns c = bad_line_is
