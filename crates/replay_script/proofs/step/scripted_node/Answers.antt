use Rattle.std.proofs.Common.{[], IfOk, subst}
use Rattle.node_core.specs.Node.{Stands}
use Rattle.replay_script.proofs.step.scripted_node.Goals as goal

pub returns : goal.returns
returns c = rw (← c.in_ok-origin.ensures, ← c.in_ok-fields.ensures) c.new.ensures.stands
