use Rattle.shelf.proofs.ListLemmas.{filter_few}
use Rattle.delivery_core.proofs.edge.Edge.end_open.Goals as goal

pub invariant_of-self : goal.invariant_of-self
invariant_of-self c =
    let i = c.self.invariant in
    (i.0, rw c.end.ensures.after (filter_few _ _ _ _ i.1), rw c.end.ensures.after i.2)
