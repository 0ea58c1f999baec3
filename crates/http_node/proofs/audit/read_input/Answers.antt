use Rattle.http_node.proofs.AuditLemmas.{past_limit}
use Rattle.http_node.proofs.audit.read_input.Goals as goal

pub returns-in-TooLarge-clause-input : goal.returns-in-TooLarge-clause-input
returns-in-TooLarge-clause-input g c = past_limit _ _ _ _ _ _ c.in-Ok.ensures c.in-TooLarge.ensures.bytes
