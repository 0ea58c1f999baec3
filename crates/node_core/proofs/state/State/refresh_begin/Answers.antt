use Rattle.std.proofs.lemmas.Bool.{eq-eqb, ne_eqb}
use Rattle.node_core.proofs.StateLemmas.{due_told, forced_number, full_told, not_due_told}
use Rattle.node_core.proofs.state.State.refresh_begin.Goals as goal

pub returns-in-Some-clause-told : goal.returns-in-Some-clause-told
returns-in-Some-clause-told c = λ made h s. rw (← c.self.view_is) (not_due_told made h c.self.inside.edge.seen c.self.inside.edge.seen c.self.inside.control c.self.inside.heading c.self.inside.opened (rw (← c.self.view_is) at s) c.args.pass c.args.moment _ c.in-Some.ensures)

pub returns-then-self-limits-clause-told : goal.returns-then-self-limits-clause-told
returns-then-self-limits-clause-told c = λ made h s. rw (← c.self.view_is) (full_told made h c.self.inside.edge.seen c.self.inside.edge.seen c.self.inside.control c.self.inside.heading c.self.inside.opened (rw (← c.self.view_is) at s) c.args.pass c.args.moment c.in_default.ensures (eq-eqb c.self.inside.opened c.self.inside.edge.seen.limits.opened (rw (← c.limits.ensures) (rw (← c.limits-2.view_is) c.if-self-limits.true))))

pub returns-clause-told : goal.returns-clause-told
returns-clause-told c = λ made h s. due_told made h c.self.inside.edge.seen _ c.self.inside.control c.self.inside.heading c.self.inside.opened (rw (← c.self.view_is) at s) c.args.pass c.args.moment _ c.in_default.ensures (ne_eqb c.self.inside.opened c.self.inside.edge.seen.limits.opened (rw (← c.limits.ensures) (rw (← c.limits-2.view_is) c.if-self-limits.false)))
    (forced_number c.self.inside.edge.seen _ _ c.in-Due.is c.in_ok-began.ensures.reply) (rw c.in-Due.is at c.in_ok-began.ensures.after)
