use Rattle.std.proofs.Common.{◌≡◌, ◌+◌, ◌-◌, ◌*◌, ◌≤◌, length}
use Rattle.http_wire.specs.Moves.{Moves}
use Rattle.http_wire.proofs.body.gather_to_end.Given as goal

abbrev pub invariant-pieces : goal.invariant-pieces
invariant-pieces g l = record {
  moves : Moves (g.S.Source.left l.initial.source) (g.S.Source.left l.source) l.initial.inbox l.inbox l.text.items;
  short : length l.text.items ≤ l.limit;
  answered : g.S.Source.faults l.source ≡ g.S.Source.faults l.initial.source;
}

abbrev pub decreases-pieces : goal.decreases-pieces
decreases-pieces g l = 2 * (l.limit - length l.text.items) + (1 - length l.inbox)
