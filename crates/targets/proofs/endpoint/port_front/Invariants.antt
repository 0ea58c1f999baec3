use Rattle.std.proofs.Common.{◌≡◌, ◌≤◌, drop}
use Rattle.targets.specs.Endpoint.{port_front}
use Rattle.targets.proofs.endpoint.port_front.Given as goal

abbrev pub invariant-digits : goal.invariant-digits
invariant-digits l = record { small : l.value ≤ 65535; rest : port_front l.value l.count (drop l.count l.digits) ≡ port_front 0 0 l.digits }
