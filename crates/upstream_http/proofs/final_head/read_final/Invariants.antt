use Rattle.std.proofs.Common.{◌≡◌, ◌≤◌, ◌+◌, ◌*◌, ◌-◌, List, [], length}
use Rattle.http_wire.specs.Moves.{Moves}
use Rattle.http_wire.specs.declared.limits.TheConstants.{HEAD_MAX}
use Rattle.upstream_http.specs.FinalHead.{SpelledHead, AreInterim, heads_text}
use Rattle.upstream_http.specs.declared.final_head.TheConstants.{INTERIM_MAX}
use Rattle.upstream_http.proofs.final_head.read_final.Given as goal

abbrev pub invariant-heads : goal.invariant-heads
invariant-heads g l = record {
  so_far : (interim : List SpelledHead) × AreInterim interim × (length interim ≡ l.skipped)
      × Moves (g.S.Source.left l.initial.source) (g.S.Source.left l.source) [] l.inbox (heads_text interim)
      × (l.taken ≡ length (heads_text interim));
  few : l.skipped ≤ INTERIM_MAX;
  short : l.taken ≤ l.skipped * HEAD_MAX;
  answered : g.S.Source.faults l.source ≡ g.S.Source.faults l.initial.source;
}

abbrev pub decreases-heads : goal.decreases-heads
decreases-heads g l = INTERIM_MAX + 1 - l.skipped
