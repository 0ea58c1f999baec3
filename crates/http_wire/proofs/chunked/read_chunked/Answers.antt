use Rattle.http_wire.proofs.ChunkedLemmas.{finds_chunked}
use Rattle.http_wire.proofs.chunked.read_chunked.Goals as goal

pub returns-clause-found : goal.returns-clause-found
returns-clause-found g c = finds_chunked c.args.limit _ _ c.args.inbox.now _ _ c.gather_chunks.ensures.bytes
