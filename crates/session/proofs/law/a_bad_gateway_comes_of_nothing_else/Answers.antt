use Rattle.session.proofs.TellingLemmas.{only_nothing_is_502}
use Rattle.session.proofs.law.a_bad_gateway_comes_of_nothing_else.Goals as goal

pub returns : goal.returns
returns c = λ root asked place manner d after content bad. only_nothing_is_502 manner asked.target content.course content.answer content.planned content.answered bad
