use Rattle.session.proofs.TellingLemmas.{nothing_is_502}
use Rattle.session.proofs.law.a_fetch_that_brings_nothing_is_a_bad_gateway.Goals as goal

pub returns : goal.returns
returns c = λ root asked place manner d after content nothing. nothing_is_502 manner content.course content.answer nothing content.answered
