use Rattle.door_tests.proofs.TestLemmas.{served_nobody}
use Rattle.door_tests.proofs.memory.worker.Goals as goal

pub returns : goal.returns
returns c = served_nobody c.in_ok-door.door c.in_ok-door.ensures
