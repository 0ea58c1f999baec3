use Rattle.std.proofs.Common.{◌≡◌, drop}
use Rattle.epochs.specs.Chains.{mixed}
use Rattle.epochs.proofs.chains.mixed.Given as goal

abbrev pub invariant-bytes : goal.invariant-bytes
invariant-bytes l = mixed l.so_far (drop l.byte-index l.bytes) ≡ mixed l.number l.bytes
