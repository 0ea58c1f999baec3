use Rattle.node_core.proofs.TriggerLemmas.{delete_told}
use Rattle.node_core.proofs.state.State.delete.Goals as goal

pub returns-clause-told : goal.returns-clause-told
returns-clause-told c = λ made h pass s. delete_told made h c.self.inside.edge.seen c.self.inside.control c.self.inside.heading c.self.inside.opened (rw (← c.self.view_is) at s) pass c.args.id _ _ _ c.delete-deleted.ensures.reply c.delete-deleted.ensures.after c.reply_of_delete.ensures
