use Rattle.command_law.proofs.Commands.{text_meets}
use Rattle.command_law.proofs.grammar.what_is_read_is_what_is_written.Goals as goal

pub returns : goal.returns
returns c own control text command = ((text_meets own control text).read command, (text_meets own control text).is_read command)
