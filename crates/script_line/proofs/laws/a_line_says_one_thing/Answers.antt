use Rattle.script_line.proofs.GrammarLemmas.{one_saying}
use Rattle.script_line.proofs.laws.a_line_says_one_thing.Goals as goal

pub returns : goal.returns
returns c = one_saying
