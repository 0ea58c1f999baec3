use Rattle.std.proofs.lemmas.Bool.{eq-eqb, ne_eqb}
use Rattle.node_core.proofs.TriggerLemmas.{full_start_told, started_places, started_told}
use Rattle.node_core.proofs.state.State.start_step.Goals as goal

pub returns-then-self-limits-clause-told : goal.returns-then-self-limits-clause-told
returns-then-self-limits-clause-told c = λ made h s. rw (← c.self.view_is) (full_start_told made h c.self.inside.edge.seen c.self.inside.control c.self.inside.heading c.self.inside.opened (rw (← c.self.view_is) at s) c.args.pass c.args.id c.args.moment
    (rw (← c.self.view_is) at c.requires) (eq-eqb c.self.inside.opened c.self.inside.edge.seen.limits.opened (rw (← c.limits.ensures) (rw (← c.limits-2.view_is) c.if-self-limits.true))))

pub returns-clause-told : goal.returns-clause-told
returns-clause-told c = λ made h s. started_told made h c.self.inside.edge.seen c.self.inside.control c.self.inside.heading c.self.inside.opened (rw (← c.self.view_is) at s) c.args.pass c.args.id c.args.moment _ _ _
    (rw (← c.self.view_is) at c.requires) (ne_eqb c.self.inside.opened c.self.inside.edge.seen.limits.opened (rw (← c.limits.ensures) (rw (← c.limits-2.view_is) c.if-self-limits.false)))
    c.job.ensures c.in_ok-start_by.ensures.after c.step_done.ensures.after

pub returns-clause-places : goal.returns-clause-places
returns-clause-places c = rw (← c.self.view_is) (started_places c.self.inside.edge.seen _ _ c.in_ok-start_by.ensures.after)
