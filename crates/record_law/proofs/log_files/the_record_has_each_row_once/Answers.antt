use Rattle.record_law.proofs.FileLaw.{record_law}
use Rattle.record_law.proofs.log_files.the_record_has_each_row_once.Goals as goal

pub returns : goal.returns
returns c = record_law
