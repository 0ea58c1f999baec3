use Rattle.doors.proofs.EndedLemmas.{ends_own}
use Rattle.doors.proofs.VisitLemmas.{visits_ended}
use Rattle.doors.proofs.law.what_visits_open_is_ended.Goals as goal

pub returns : goal.returns
returns c = λ settings table who visits h last each told. ends_own who h _ last (visits_ended c.what_is_opened_is_ended.ensures settings table visits each) told
