use Rattle.std.proofs.Common.{ap, length, arith, ◌∙◌}
use Rattle.http_wire.proofs.BodyLemmas.{moves_piece, moves_part, part_length, moved_rest}
use Rattle.http_wire.proofs.body.gather_to_end.Goals as goal

pub pieces-preserved : goal.pieces-preserved
pieces-preserved g c =
    let piece = c.in-Ok.ensures.ok in
    let fill = c.in-Some.ensures.bytes in
    record {
      moves = moves_piece _ _ _ _ c.pieces.inbox c.move_piece.new.inbox _ c.pieces.text.items c.move_piece.new.text.items fill.0 _ _ c.pieces.invariant.moves piece fill.1 fill.2;
      short = omega (arith, part_length c.pieces.inbox c.move_piece.new.inbox c.pieces.text.items c.move_piece.new.text.items _ _ piece, c.pieces.invariant.short, c.len.ensures, c.pieces.text.ok.0);
      answered = c.in-Some.ensures.cause.answered (λ e. cc) ∙ c.pieces.invariant.answered;
    }

pub returns-then-bytes-gt0-clause-bytes : goal.returns-then-bytes-gt0-clause-bytes
returns-then-bytes-gt0-clause-bytes g c =
    let piece = c.in-Ok.ensures.ok in
    let long = part_length c.pieces.inbox c.move_piece.new.inbox c.pieces.text.items c.move_piece.new.text.items _ _ piece in
    let rest = moved_rest c.pieces.inbox c.move_piece.new.inbox c.pieces.text.items c.move_piece.new.text.items _ _ piece in
    let more = ap length c.bytes.ensures.bytes in (
      _,
      moves_part _ _ _ c.pieces.inbox c.move_piece.new.inbox c.pieces.text.items c.move_piece.new.text.items _ _ c.pieces.invariant.moves piece,
      omega (arith, long, rest, more, piece.is, c.if-bytes-gt0.true, c.pieces.invariant.short, c.len.ensures, c.pieces.text.ok.0),
      omega (arith, more, c.if-bytes-gt0.true),
      c.saturating_add.ensures,
    )
