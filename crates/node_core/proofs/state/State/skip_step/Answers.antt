use Rattle.std.proofs.Common.{ap}
use Rattle.node_core.proofs.StateLemmas.{state}
use Rattle.node_core.proofs.TriggerLemmas.{skip_left}
use Rattle.node_core.proofs.state.State.skip_step.Goals as goal

pub returns-clause-after : goal.returns-clause-after
returns-clause-after c = rw (← c.self.view_is) (ap (λ v. state c.self.inside.edge.seen v c.self.inside.heading c.self.inside.opened) (skip_left c.self.inside.control _ _ c.args.pass c.args.id c.args.place c.args.moment
    (rw (← c.self.view_is) at c.requires) c.step_done.ensures.after c.step_done.ensures.ready c.step_ended.ensures))
