use Rattle.door_tests.proofs.TestLemmas.{is_fresh}
use Rattle.door_tests.proofs.commands.worker.Goals as goal

pub returns : goal.returns
returns c =
    is_fresh (record { door = c.in_ok-door.door; gate = c.in_ok-gate.gate; clock = c.in_ok-clock.clock }) _ _ c.in_ok-door.ensures.faults c.in_ok-door.ensures.passed c.in_ok-door.ensures.telling
    c.in_ok-gate.ensures c.in_ok-clock.ensures
