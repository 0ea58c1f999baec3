use Rattle.httparse.specs.Grammar.{MayBecomeRequest}
use Rattle.http_wire.specs.Head.{Spells, HasNoHead, IsHopelessHead}
use Rattle.http_wire.proofs.FoundLemmas.{finds}
use Rattle.http_wire.proofs.HeadLemmas.{request_grammar}
use Rattle.http_wire.proofs.head.read_head.Goals as goal

pub returns-clause-found : goal.returns-clause-found
returns-clause-found g c = finds Spells HasNoHead MayBecomeRequest IsHopelessHead request_grammar _ _ c.args.inbox.now _ _ c.gather_head.ensures.bytes
