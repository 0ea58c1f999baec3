use Rattle.std.proofs.Common.{Ok}
use Rattle.node_core.proofs.LogLemmas.{log_ok}
use Rattle.node_core.proofs.state.State.log_file.Goals as goal

pub returns-clause-told : goal.returns-clause-told
returns-clause-told c = λ made h pass s. rw (c.in_ok-text.ensures.same) (log_ok made h c.self.inside.edge.seen c.self.inside.control c.self.inside.heading c.self.inside.opened (rw (← c.self.view_is) at s) pass c.args.number _ (Ok c.log_reply.result) c.in_ok-text.ensures.text c.log_reply.ensures)
