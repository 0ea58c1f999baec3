use Rattle.delivery_law.proofs.DenialLaw.{admitted_free, denied_first}
use Rattle.delivery_law.proofs.denials.a_denial_names_the_first_rule_that_forbids.Goals as goal

pub returns-clause-denied : goal.returns-clause-denied
returns-clause-denied c = λ made h pass request moment delivery r is. denied_first made h request moment pass delivery r is

pub returns-clause-admitted : goal.returns-clause-admitted
returns-clause-admitted c = λ made h pass request moment is r forbids. admitted_free made h request moment pass is r forbids
