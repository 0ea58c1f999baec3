use Rattle.shelf.proofs.HeldLemmas.{part_same}
use Rattle.delivery_core.proofs.edge.Edge.miss.Goals as goal

pub returns-in_err-reserve-clause-held : goal.returns-in_err-reserve-clause-held
returns-in_err-reserve-clause-held c = rw (← c.self.view_is) (part_same _)

pub returns-in_err-copy-clause-held : goal.returns-in_err-copy-clause-held
returns-in_err-copy-clause-held c = rw (← c.self.view_is) (part_same _)

pub returns-in_err-fetch-clause-held : goal.returns-in_err-fetch-clause-held
returns-in_err-fetch-clause-held c = rw (← c.self.view_is) c.open_missed.ensures.held

pub returns-clause-held : goal.returns-clause-held
returns-clause-held c = rw (← c.self.view_is) c.open_missed.ensures.held
