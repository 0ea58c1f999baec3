use Rattle.door_tests.proofs.TestLemmas.{all_one}
use Rattle.door_tests.proofs.commands.a_worker_serves_and_is_given_back.Goals as goal

pub new-requires : goal.new-requires
new-requires g c = record { fresh = all_one c.push.new.self _ c.in_ok-worker.field-0 c.in_ok-push.ensures.ok c.new-workers.ensures c.in_ok-worker.ensures }
