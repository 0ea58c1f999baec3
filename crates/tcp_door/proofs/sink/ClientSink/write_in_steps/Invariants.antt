use Rattle.std.proofs.Common.{◌≡◌}
use Rattle.tcp_door.proofs.sink.ClientSink.write_in_steps.Given as goal

abbrev pub invariant-loop : goal.invariant-loop
invariant-loop g l = l.self.sink.faults ≡ l.fn.self.sink.faults
