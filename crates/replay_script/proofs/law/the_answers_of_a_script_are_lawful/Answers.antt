use Rattle.std.proofs.Common.{sym}
use Rattle.replay_script.specs.Law.{played}
use Rattle.replay_script.proofs.law.the_answers_of_a_script_are_lawful.Goals as goal

pub returns : goal.returns
returns c = λ script at entry answer a. c.every_answer_is_lawful.ensures (played script).made a.before entry.0 entry.1 answer (sym a.answered)
