use Rattle.session_base.specs.Doing.{nothing}
use Rattle.session.proofs.EndedLemmas.{runs_ended}
use Rattle.session.proofs.law.what_is_opened_is_ended.Goals as goal

pub returns : goal.returns
returns c = λ settings place d end session. runs_ended settings place 0 nothing session.0 end d tt session.1
