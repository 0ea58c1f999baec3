use Rattle.json_read.proofs.Texts.{json_of-none}
use Rattle.json_read.proofs.borrowed.parse_borrowed.Goals as goal

pub returns-in-Err : goal.returns-in-Err
returns-in-Err c = json_of-none _ (λ utf8. absurd (c.in-Err.ensures.cases.0 utf8))
