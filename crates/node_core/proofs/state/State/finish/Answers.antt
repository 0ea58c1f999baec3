use Rattle.node_core.proofs.EndLemmas.{finish_ends}
use Rattle.history.specs.After.{row_of}
use Rattle.node_core.proofs.StateLemmas.{finish_told, sound_finish}
use Rattle.node_core.proofs.state.State.finish.Goals as goal

pub returns-clause-told : goal.returns-clause-told
returns-clause-told c = λ made h s. finish_told made h c.self.inside.edge.seen _ c.self.inside.control c.self.inside.heading c.self.inside.opened (rw (← c.self.view_is) at s) c.args.pass c.args.delivery c.args.status c.args.total c.args.entity c.args.moment _ _
    c.finish-row.ensures.reply c.finish-row.ensures.after c.reply_of_delivery.ensures

pub invariant_of-self : goal.invariant_of-self
invariant_of-self c = rw c.finish-row.ensures.after (sound_finish c.self.inside.edge.seen c.self.inside.control c.self.inside.opened c.self.invariant c.args.pass c.args.delivery (row_of c.args.status c.args.total c.args.entity c.args.moment) _)

pub returns-clause-ends : goal.returns-clause-ends
returns-clause-ends c = rw (← c.self.view_is) (finish_ends c.self.inside.edge.seen _ c.self.inside.control c.self.inside.heading c.self.inside.opened c.args.pass c.args.delivery (row_of c.args.status c.args.total c.args.entity c.args.moment) _ _
    c.finish-row.ensures.reply c.finish-row.ensures.after c.reply_of_delivery.ensures)
