use Rattle.node_core.proofs.TriggerLemmas.{cancel_told}
use Rattle.node_core.proofs.state.State.cancel.Goals as goal

pub returns-clause-told : goal.returns-clause-told
returns-clause-told c = λ made h pass s. cancel_told made h c.self.inside.edge.seen c.self.inside.control c.self.inside.heading c.self.inside.opened (rw (← c.self.view_is) at s) pass _ c.args.moment _ _ _ c.in_ok-cancelled.ensures.reply c.in_ok-cancelled.ensures.after c.reply_of_cancel.ensures
