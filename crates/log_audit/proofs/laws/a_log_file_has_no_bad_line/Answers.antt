use Rattle.log_audit.proofs.FileLemmas.{no_bad_line}
use Rattle.log_audit.proofs.laws.a_log_file_has_no_bad_line.Goals as goal

pub returns : goal.returns
returns c = no_bad_line
