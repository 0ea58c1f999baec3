use Rattle.std.proofs.Common.{◌≡◌, ℕ, ◌+◌, ◌-◌, ◌*◌, List, length}
use Rattle.http_wire.specs.Body.{Passes}
use Rattle.http_wire.proofs.body.read_piece.Given as goal

abbrev pub invariant-pieces : goal.invariant-pieces
invariant-pieces g l = record {
  passed : (bytes : List ℕ)
      × Passes (g.S.Source.left l.initial.source) (g.S.Source.left l.source) l.initial.inbox l.inbox l.initial.text.items l.text.items bytes
      × (length bytes + l.left ≡ l.count);
  answered : g.S.Source.faults l.source ≡ g.S.Source.faults l.initial.source;
}

abbrev pub decreases-pieces : goal.decreases-pieces
decreases-pieces g l = 2 * l.left + (1 - length l.inbox)
