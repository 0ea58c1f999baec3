use Rattle.std.proofs.Common.{arith, ◌∙◌}
use Rattle.http_wire.proofs.BodyLemmas.{passes_moved, passes_filled, moved_length}
use Rattle.http_wire.proofs.body.read_piece.Goals as goal

pub pieces-preserved : goal.pieces-preserved
pieces-preserved g c =
    let before = c.pieces.invariant.passed in
    let moved = passes_moved _ _ _ _ c.move_piece.new.inbox _ _ c.move_piece.new.text.items before.0 _ c.in-Ok.moved before.1 c.in-Ok.ensures.ok in
    let fill = c.in-Some.ensures.bytes in
    record {
      passed = (_, passes_filled _ _ _ _ _ _ _ _ _ _ moved fill.1 fill.2, omega (arith, before.2, moved_length _ _ _ _ before.0 _ _ c.in-Ok.ensures.ok, c.in-Ok.ensures.ok.is));
      answered = c.in-Some.ensures.cause.answered (λ e. cc) ∙ c.pieces.invariant.answered;
    }
