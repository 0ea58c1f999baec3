use Rattle.http_wire.proofs.BodyLemmas.{finds_to_end}
use Rattle.http_wire.proofs.body.read_to_end.Goals as goal

pub returns-clause-found : goal.returns-clause-found
returns-clause-found g c = finds_to_end c.args.limit _ _ c.args.inbox.now _ _ c.gather_to_end.ensures.bytes
