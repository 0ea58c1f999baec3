use Rattle.script_line.proofs.GrammarLemmas.{line_says, says_line}
use Rattle.script_line.proofs.laws.what_is_read_is_what_is_said.Goals as goal

pub returns : goal.returns
returns c = λ line said. (line_says line said, says_line line said)
