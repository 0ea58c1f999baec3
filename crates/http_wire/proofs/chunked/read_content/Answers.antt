use Rattle.http_wire.proofs.ChunkLemmas.{content_end}
use Rattle.http_wire.proofs.chunked.read_content.Goals as goal

pub returns-in-Whole-clause-bytes : goal.returns-in-Whole-clause-bytes
returns-in-Whole-clause-bytes g c = let piece = c.in-Whole.ensures.bytes in
    content_end c.args.line _ _ _ _ _ _ _ _ _ piece.0 _ piece.1.moves piece.1.grown piece.2 c.saturating_add.ensures c.read_end.ensures.bytes
