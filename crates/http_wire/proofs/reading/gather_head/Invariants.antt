use Rattle.std.proofs.Common.{◌≡◌, ◌-◌, [], length}
use Rattle.http_wire.specs.Moves.{Moves}
use Rattle.http_wire.specs.declared.limits.TheConstants.{HEAD_MAX}
use Rattle.http_wire.proofs.reading.gather_head.Given as goal

abbrev pub invariant-reads : goal.invariant-reads
invariant-reads g l = record {
  moves : Moves (g.S.Source.left l.initial.source) (g.S.Source.left l.source) l.initial.inbox l.inbox [];
  answered : g.S.Source.faults l.source ≡ g.S.Source.faults l.initial.source;
}

abbrev pub decreases-reads : goal.decreases-reads
decreases-reads g l = HEAD_MAX - length l.inbox
