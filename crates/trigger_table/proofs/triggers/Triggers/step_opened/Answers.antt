use Rattle.std.proofs.Common.{sym, ap, ◌∙◌}
use Rattle.trigger_table.specs.State.{opened_by}
use Rattle.trigger_table.proofs.Places.{seen_with, set_at, set_ids}
use Rattle.trigger_table.proofs.triggers.Triggers.step_opened.Goals as goal

pub invariant_of-self : goal.invariant_of-self
invariant_of-self c = (c.self.invariant.0 ∙ sym (set_ids _ _ _ _ c.index_mut.ensures.value c.step_opened.ensures.id), c.self.invariant.1)

pub returns-in-Some : goal.returns-in-Some
returns-in-Some c =
    let i = c.self.inside in
    let at = rw (← c.self.view_is) at c.in-Some.ensures in
    rw (← c.self.view_is) (ap (seen_with i.most i.created) (set_at c.args.id i.items.items c.in-Some.place (opened_by c.args.number) _ _ at c.index_mut.ensures.value c.step_opened.ensures.after))
