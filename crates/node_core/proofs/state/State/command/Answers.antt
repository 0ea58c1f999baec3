use Rattle.std.proofs.Common.{length}
use Rattle.std.proofs.lemmas.Bool.{eq-eqb, ne_eqb}
use Rattle.node_core.proofs.TriggerLemmas.{created_told, full_command_told, spent_command_told}
use Rattle.node_core.proofs.state.State.command.Goals as goal

pub returns-then-count-limits-clause-told : goal.returns-then-count-limits-clause-told
returns-then-count-limits-clause-told c = λ made h pass s. rw (c.job_count-count.ensures, ← c.self.view_is) (full_command_told made h c.self.inside.edge.seen c.self.inside.control c.self.inside.heading c.self.inside.opened (rw (← c.self.view_is) at s) pass c.args.spec c.args.moment
    (eq-eqb (length c.self.inside.control.triggers.triggers) c.self.inside.edge.seen.limits.triggers (rw (← c.job_count-count.ensures) (rw (← c.limits.ensures) (rw (← c.limits-2.view_is) c.if-count-limits.true)))))

pub returns-then-self-limits-clause-told : goal.returns-then-self-limits-clause-told
returns-then-self-limits-clause-told c = λ made h pass s. rw (← c.self.view_is) (spent_command_told made h c.self.inside.edge.seen c.self.inside.control c.self.inside.heading c.self.inside.opened (rw (← c.self.view_is) at s) pass c.args.spec c.args.moment
    (ne_eqb (length c.self.inside.control.triggers.triggers) c.self.inside.edge.seen.limits.triggers (rw (← c.job_count-count.ensures) (rw (← c.limits.ensures) (rw (← c.limits-2.view_is) c.if-count-limits.false))))
    (eq-eqb c.self.inside.opened c.self.inside.edge.seen.limits.opened (rw (← c.limits-3.ensures) (rw (← c.limits-4.view_is) c.if-self-limits.true))))

pub returns-clause-told : goal.returns-clause-told
returns-clause-told c = λ made h pass s. created_told made h c.self.inside.edge.seen c.self.inside.control c.self.inside.heading c.self.inside.opened (rw (← c.self.view_is) at s) pass c.args.spec c.args.moment _ _
    (ne_eqb (length c.self.inside.control.triggers.triggers) c.self.inside.edge.seen.limits.triggers (rw (← c.job_count-count.ensures) (rw (← c.limits.ensures) (rw (← c.limits-2.view_is) c.if-count-limits.false))))
    (ne_eqb c.self.inside.opened c.self.inside.edge.seen.limits.opened (rw (← c.limits-3.ensures) (rw (← c.limits-4.view_is) c.if-self-limits.false)))
    (rw c.in-Some.is at c.in_ok-id.ensures.reply) c.in_ok-id.ensures.after
