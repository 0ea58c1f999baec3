use Rattle.node_core.proofs.TriggerLemmas.{list_told}
use Rattle.node_core.proofs.state.State.list.Goals as goal

pub returns-clause-told : goal.returns-clause-told
returns-clause-told c = λ made h pass s. rw (← c.self.view_is) (list_told made h c.self.inside.edge.seen c.self.inside.control c.self.inside.heading c.self.inside.opened (rw (← c.self.view_is) at s) pass c.args.filter _ c.in_ok-job_ids.ensures)
