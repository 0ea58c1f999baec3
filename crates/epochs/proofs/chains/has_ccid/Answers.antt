use Rattle.std.proofs.Common.{sym}
use Rattle.trigger_command.proofs.SelectionLemmas.{no_ccid}
use Rattle.epochs.proofs.chains.has_ccid.Goals as goal

pub returns-in-None : goal.returns-in-None
returns-in-None c = rw c.in-None.is (sym (no_ccid c.args.ccids.now))
