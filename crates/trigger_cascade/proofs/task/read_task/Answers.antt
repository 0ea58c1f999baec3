use Rattle.trigger_cascade.proofs.TaskLemmas.{body_read, large_read}
use Rattle.trigger_cascade.proofs.task.read_task.Goals as goal

pub returns-in-Body-clause-task : goal.returns-in-Body-clause-task
returns-in-Body-clause-task g c =
    body_read c.args.own.now _ _ _ _ c.in-Body.text c.task_of.result c.read_or_memory.result c.in-Ok.ensures c.in-Body.ensures.bytes (rw c.bytes.ensures at c.task_of.ensures) c.read_or_memory.ensures

pub returns-in-TooLarge-clause-task : goal.returns-in-TooLarge-clause-task
returns-in-TooLarge-clause-task g c =
    large_read c.args.own.now _ _ _ _ c.in-TooLarge.len c.stop.result c.read_or_memory-in-TooLarge.result c.in-Ok.ensures c.in-TooLarge.ensures.bytes c.stop.ensures c.read_or_memory-in-TooLarge.ensures
