use Rattle.command_law.proofs.Commands.{text_meets}
use Rattle.command_law.proofs.grammar.what_is_refused_has_the_first_fault.Goals as goal

pub returns : goal.returns
returns c own control text fault = ((text_meets own control text).refused fault, (text_meets own control text).is_refused fault)
