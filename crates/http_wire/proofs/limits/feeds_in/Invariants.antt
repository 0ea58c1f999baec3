use Rattle.std.proofs.Common.{◌≡◌, ◌≤◌, ◌+◌, length}
use Rattle.http_wire.specs.Limits.{feeds}
use Rattle.http_wire.proofs.limits.feeds_in.Given as goal

abbrev pub invariant-lines : goal.invariant-lines
invariant-lines l = record { so_far : l.count + feeds l.rest ≡ feeds l.bytes; within : l.count + length l.rest ≤ l.most }

abbrev pub decreases-lines : goal.decreases-lines
decreases-lines l = length l.rest
