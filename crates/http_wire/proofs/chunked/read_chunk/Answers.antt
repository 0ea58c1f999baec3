use Rattle.std.proofs.Common.{arith}
use Rattle.http_wire.proofs.ChunkLemmas.{chunk_behind}
use Rattle.http_wire.proofs.chunked.read_chunk.Goals as goal

pub returns-else-line-limit-clause-bytes : goal.returns-else-line-limit-clause-bytes
returns-else-line-limit-clause-bytes g c = let head = c.in-Head.ensures.bytes in
    chunk_behind c.args.limit _ _ _ _ _ _ c.args.text.now.items _ head.0 c.in-Head.line _ head.1 head.2 (omega (arith, c.if-line-eq0.false)) (omega (arith, c.if-line-limit.false, c.len.ensures, c.args.text.now.ok.0)) c.requires c.read_content.ensures.bytes
