use Rattle.std.proofs.lemmas.Bool.{eq-eqb, ne_eqb}
use Rattle.node_core.proofs.StateLemmas.{forced_number}
use Rattle.node_core.proofs.TriggerLemmas.{full_refresh_told, refreshed_told}
use Rattle.node_core.proofs.state.State.refresh_step.Goals as goal

pub returns-then-self-limits-clause-told : goal.returns-then-self-limits-clause-told
returns-then-self-limits-clause-told c = λ made h s. rw (← c.self.view_is) (full_refresh_told made h c.self.inside.edge.seen c.self.inside.control c.self.inside.heading c.self.inside.opened (rw (← c.self.view_is) at s) c.args.pass c.args.id c.args.moment
    (rw (← c.self.view_is) at c.requires) (eq-eqb c.self.inside.opened c.self.inside.edge.seen.limits.opened (rw (← c.limits.ensures) (rw (← c.limits-2.view_is) c.if-self-limits.true))))

pub returns-clause-told : goal.returns-clause-told
returns-clause-told c = λ made h s. refreshed_told made h c.self.inside.edge.seen c.self.inside.control c.self.inside.heading c.self.inside.opened (rw (← c.self.view_is) at s) c.args.pass c.args.id c.args.moment _ _ _ c.in-Due.refresh
    (rw (← c.self.view_is) at c.requires) (ne_eqb c.self.inside.opened c.self.inside.edge.seen.limits.opened (rw (← c.limits.ensures) (rw (← c.limits-2.view_is) c.if-self-limits.false)))
    (forced_number c.self.inside.edge.seen _ _ c.in-Due.is c.in_ok-began.ensures.reply) (rw c.in-Due.is at c.in_ok-began.ensures.after)
    c.step_done.ensures.after c.step_done.ensures.ready c.step_opened.ensures
