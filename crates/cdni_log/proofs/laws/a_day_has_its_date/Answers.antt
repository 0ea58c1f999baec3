use Rattle.cdni_log.proofs.DateLemmas.{date_of_is}
use Rattle.cdni_log.proofs.laws.a_day_has_its_date.Goals as goal

pub returns : goal.returns
returns c day h = date_of_is day h
