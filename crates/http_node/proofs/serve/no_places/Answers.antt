use Rattle.http_node.proofs.ServeLemmas.{none_unread}
use Rattle.http_node.proofs.serve.no_places.Goals as goal

pub returns-clause-none : goal.returns-clause-none
returns-clause-none c = none_unread _ c.read_places.ensures.none
