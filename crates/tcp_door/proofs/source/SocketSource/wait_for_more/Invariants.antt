use Rattle.std.proofs.Common.{◌≡◌}
use Rattle.tcp_door.proofs.source.SocketSource.wait_for_more.Given as goal

abbrev pub invariant-loop : goal.invariant-loop
invariant-loop g l = l.self.faults ≡ l.fn.self.faults
