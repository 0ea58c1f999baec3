use Rattle.std.proofs.Common.{◌∙◌, ap, take, arith}
use Rattle.http_wire.proofs.InboxLemmas.{settled}
use Rattle.http_wire.proofs.inbox.settle.Goals as goal

pub returns-clause-moved : goal.returns-clause-moved
returns-clause-moved c = ap (take _) c.copy_within.ensures.items ∙ settled c.args.bytes.now.items c.args.from c.args.to c.requires.ordered (omega (arith, c.requires.within, c.args.bytes.now.ok.0))
