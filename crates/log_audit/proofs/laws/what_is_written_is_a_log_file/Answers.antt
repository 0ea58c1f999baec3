use Rattle.log_audit.proofs.WrittenLemmas.{written, written_hash}
use Rattle.log_audit.proofs.laws.what_is_written_is_a_log_file.Goals as goal

pub returns : goal.returns
returns c head rows forms = (written head rows forms, written_hash head rows)
