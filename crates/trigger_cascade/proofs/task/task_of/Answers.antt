use Rattle.trigger_cascade.specs.Task.{control_host}
use Rattle.trigger_command.specs.Reading.{command_of}
use Rattle.trigger_cascade.proofs.TaskLemmas.{refused_is}
use Rattle.trigger_cascade.proofs.task.task_of.Goals as goal

pub returns : goal.returns
returns c = refused_is c.in-Err.fault (command_of c.args.own.now control_host c.args.text.now) c.refused.result (rw c.in_ok-of.ensures at c.in-Err.ensures) c.refused.ensures
