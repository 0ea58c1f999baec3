use Rattle.httparse.specs.Grammar.{MayBecomeResponse}
use Rattle.http_wire.specs.Response.{SpellsResponse, HasNoResponseHead, IsHopelessResponse}
use Rattle.http_wire.proofs.FoundLemmas.{finds}
use Rattle.http_wire.proofs.ResponseLemmas.{response_grammar}
use Rattle.http_wire.proofs.response.read_response_head.Goals as goal

pub returns-clause-found : goal.returns-clause-found
returns-clause-found g c = finds SpellsResponse HasNoResponseHead MayBecomeResponse IsHopelessResponse response_grammar _ _ c.args.inbox.now _ _ c.gather_head.ensures.bytes
