use Rattle.node_core.proofs.LogLemmas.{drop_told}
use Rattle.node_core.proofs.state.State.drop_log.Goals as goal

pub returns-clause-told : goal.returns-clause-told
returns-clause-told c = λ made h pass s. rw c.reply_of_drop.ensures (drop_told made h c.self.inside.edge.seen c.self.inside.control c.self.inside.heading c.self.inside.opened (rw (← c.self.view_is) at s) pass c.args.number _ _ c.drop_file-dropped.ensures.reply c.drop_file-dropped.ensures.after)
