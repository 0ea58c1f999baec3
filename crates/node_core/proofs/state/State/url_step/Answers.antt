use Rattle.std.proofs.Common.{◌+◌, ap, sym, ◌∙◌}
use Rattle.std.proofs.lemmas.Bool.{eq-eqb, ne_eqb}
use Rattle.node_core.proofs.TriggerLemmas.{changed_sound, fetch_told, full_skipped, full_url_told, plan_places, plan_sound, skipped_says, unplanned}
use Rattle.node_core.specs.Triggering.{url_of}
use Rattle.node_core.proofs.state.State.url_step.Goals as goal

pub returns-then-branch-clause-told : goal.returns-then-branch-clause-told
returns-then-branch-clause-told c = λ made h s. full_skipped made h c.self.inside.edge.seen c.self.inside.control c.self.inside.heading c.self.inside.opened (rw (← c.self.view_is) at s) c.args.pass c.args.id c.args.moment c.args.place c.in-Some.target (rw (← c.self.view_is) at c.requires) (sym c.in-Some.is ∙ c.in_ok-target.ensures ∙ ap (url_of c.args.place) c.job.ensures)
    _ _ (sym c.in_ok-skips.ensures ∙ c.if-branch.true) c.skip_step.ensures.reply (rw (← c.self.view_is) at c.skip_step.ensures.after)

pub returns-then-self-limits-clause-told : goal.returns-then-self-limits-clause-told
returns-then-self-limits-clause-told c = λ made h s. rw (← c.self.view_is) (full_url_told made h c.self.inside.edge.seen c.self.inside.control c.self.inside.heading c.self.inside.opened (rw (← c.self.view_is) at s) c.args.pass c.args.id c.args.moment c.args.place c.in-Some.target (rw (← c.self.view_is) at c.requires) (sym c.in-Some.is ∙ c.in_ok-target.ensures ∙ ap (url_of c.args.place) c.job.ensures)
    (sym c.in_ok-skips.ensures ∙ c.if-branch.false) (eq-eqb c.self.inside.opened c.self.inside.edge.seen.limits.opened (rw (← c.limits.ensures) (rw (← c.limits-2.view_is) c.if-self-limits.true))))

pub invariant_of-self-in-Some-planned : goal.invariant_of-self-in-Some-planned
invariant_of-self-in-Some-planned c =
    let room = ne_eqb c.self.inside.opened c.self.inside.edge.seen.limits.opened (rw (← c.limits.ensures) (rw (← c.limits-2.view_is) c.if-self-limits.false)) in
    changed_sound c.plan.new.self.seen c.step_done.new.self (c.self.inside.opened + 1)
    (changed_sound c.plan.new.self.seen c.self.inside.control (c.self.inside.opened + 1)
    (plan_sound c.self.inside.edge.seen c.self.inside.control c.self.inside.opened c.self.invariant c.plan.new.self.seen c.args.pass c.in-Some.target room c.in_ok-planned.ensures.after) _ _ c.step_done.ensures.after) _ _ c.step_opened.ensures

pub returns-in-Some-planned-clause-told : goal.returns-in-Some-planned-clause-told
returns-in-Some-planned-clause-told c = λ made h s. fetch_told made h c.self.inside.edge.seen c.self.inside.control c.self.inside.heading c.self.inside.opened (rw (← c.self.view_is) at s) c.args.pass c.args.id c.args.moment c.args.place c.in-Some.target (rw (← c.self.view_is) at c.requires) (sym c.in-Some.is ∙ c.in_ok-target.ensures ∙ ap (url_of c.args.place) c.job.ensures)
    _ _ _ _ (ne_eqb c.self.inside.opened c.self.inside.edge.seen.limits.opened (rw (← c.limits.ensures) (rw (← c.limits-2.view_is) c.if-self-limits.false)))
    (sym c.in-Some-planned.is ∙ c.in_ok-planned.ensures.reply) c.in_ok-planned.ensures.after c.step_done.ensures.after c.step_done.ensures.ready c.step_opened.ensures

pub returns-in-Some-planned-clause-places : goal.returns-in-Some-planned-clause-places
returns-in-Some-planned-clause-places c = rw (← c.self.view_is) (plan_places c.self.inside.edge.seen _ c.args.pass c.in-Some.target c.in_ok-planned.ensures.after)

pub returns-in-None-clause-told : goal.returns-in-None-clause-told
returns-in-None-clause-told c = λ made h s. skipped_says made h c.self.inside.edge.seen c.self.inside.control c.self.inside.heading c.self.inside.opened (rw (← c.self.view_is) at s) c.args.pass c.args.id c.args.moment c.args.place c.in-Some.target (rw (← c.self.view_is) at c.requires) (sym c.in-Some.is ∙ c.in_ok-target.ensures ∙ ap (url_of c.args.place) c.job.ensures)
    c.plan.new.self.seen _ _ (sym c.in-None.is ∙ c.in_ok-planned.ensures.reply) c.in_ok-planned.ensures.after c.skip_step-in-None.ensures.reply c.skip_step-in-None.ensures.after

pub invariant_of-self-in-None : goal.invariant_of-self-in-None
invariant_of-self-in-None c = rw (unplanned c.self.inside.edge.seen c.plan.new.self.seen c.args.pass c.in-Some.target (sym c.in-None.is ∙ c.in_ok-planned.ensures.reply) c.in_ok-planned.ensures.after) c.self.invariant
