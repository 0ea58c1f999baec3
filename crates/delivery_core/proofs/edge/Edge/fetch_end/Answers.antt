use Rattle.delivery_core.proofs.edge.Edge.fetch_end.Goals as goal

pub returns-clause-held : goal.returns-clause-held
returns-clause-held c = rw (← c.self.view_is) c.end.ensures.held
