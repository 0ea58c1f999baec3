use Rattle.std.proofs.Common.{sym, ap, ◌∙◌}
use Rattle.trigger_table.proofs.Places.{seen_with, set_ids}
use Rattle.trigger_table.proofs.Ready.{ready_at, step_at}
use Rattle.trigger_table.proofs.triggers.Triggers.step_done.Goals as goal

pub invariant_of-self : goal.invariant_of-self
invariant_of-self c = (c.self.invariant.0 ∙ sym (set_ids _ _ _ _ c.index_mut.ensures.value c.step_done.ensures.id), c.self.invariant.1)

pub returns-in-Some-clause-after : goal.returns-in-Some-clause-after
returns-in-Some-clause-after c =
    let i = c.self.inside in
    let at = rw (← c.self.view_is) at c.in-Some.ensures in
    rw (← c.self.view_is) (ap (seen_with i.most i.created) (step_at c.args.id i.items.items c.in-Some.place at _ _ c.index_mut.ensures.value c.step_done.ensures.id c.args.pass c.args.moment c.step_done.ensures.after))

pub returns-in-Some-clause-ready : goal.returns-in-Some-clause-ready
returns-in-Some-clause-ready c =
    let at = rw (← c.self.view_is) at c.in-Some.ensures in
    rw (← c.self.view_is) (ready_at c.args.id c.self.inside.items.items c.in-Some.place at _ _ c.index_mut.ensures.value c.step_done.ensures.id c.args.pass c.step_done.ensures.ready)
