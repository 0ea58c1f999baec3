use Rattle.std.proofs.Common.{arith}
use Rattle.http_node.proofs.GeneratedLemmas.{script_goes_on}
use Rattle.http_node.proofs.law.a_generated_script_goes_on.Goals as goal

pub returns-clause-goes_on : goal.returns-clause-goes_on
returns-clause-goes_on c = λ rounds seed few.
    script_goes_on (λ line said says. (c.what_is_read_is_what_is_said.ensures line said).1 says) _ _
    (c.a_generated_script_is_a_script.ensures rounds seed few) (omega (arith, few))
