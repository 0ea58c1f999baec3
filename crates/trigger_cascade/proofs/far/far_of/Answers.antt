use Rattle.std.proofs.Common.{◌≡◌, Some, IfOk, sym, ◌∙◌}
use Rattle.trigger_cascade.proofs.FarLemmas.{found_status, shown_status}
use Rattle.trigger_cascade.proofs.far.far_of.Goals as goal

pub returns-clause-status : goal.returns-clause-status
returns-clause-status c = shown_status c.args.body.now c.read_far.result c.read_far.ensures

pub returns-clause-complete : goal.returns-clause-complete
returns-clause-complete c far shown = found_status c.args.body.now far shown c.read_far.result c.read_far.ensures
