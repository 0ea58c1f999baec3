use Rattle.std.proofs.Common.{◌≡◌, ℕ, ◌-◌, List, [], length}
use Rattle.http_wire.specs.Moves.{Moves}
use Rattle.http_wire.specs.Body.{capped}
use Rattle.http_wire.specs.Chunked.{Follows}
use Rattle.http_wire.proofs.chunked.gather_chunks.Given as goal

abbrev pub invariant-chunks : goal.invariant-chunks
invariant-chunks g l = record {
  so_far : (bytes : List ℕ) × Moves (g.S.Source.left l.initial.source) (g.S.Source.left l.source) l.initial.inbox l.inbox bytes
      × Follows l.limit bytes [] l.text.items × (l.taken ≡ capped (length bytes));
  answered : g.S.Source.faults l.source ≡ g.S.Source.faults l.initial.source;
}

abbrev pub decreases-chunks : goal.decreases-chunks
decreases-chunks g l = l.limit - length l.text.items
