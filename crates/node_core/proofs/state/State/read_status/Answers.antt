use Rattle.node_core.proofs.TriggerLemmas.{status_told}
use Rattle.node_core.proofs.state.State.read_status.Goals as goal

pub returns-clause-told : goal.returns-clause-told
returns-clause-told c = λ made h pass s. rw (← c.self.view_is) (status_told made h c.self.inside.edge.seen c.self.inside.control c.self.inside.heading c.self.inside.opened (rw (← c.self.view_is) at s) pass c.args.id _ _ c.job.ensures c.reply_of_status.ensures)
