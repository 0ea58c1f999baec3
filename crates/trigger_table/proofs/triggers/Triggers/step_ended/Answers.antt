use Rattle.std.proofs.Common.{sym, ap, ◌∙◌}
use Rattle.trigger_table.specs.State.{step_ended}
use Rattle.trigger_table.proofs.Places.{seen_with, set_at, set_ids}
use Rattle.trigger_table.proofs.triggers.Triggers.step_ended.Goals as goal

pub invariant_of-self : goal.invariant_of-self
invariant_of-self c = (c.self.invariant.0 ∙ sym (set_ids _ _ _ _ c.index_mut.ensures.value c.step_ended.ensures.id), c.self.invariant.1)

pub returns-in-Some : goal.returns-in-Some
returns-in-Some c =
    let i = c.self.inside in
    let at = rw (← c.self.view_is) at c.in-Some.ensures in
    rw (← c.self.view_is) (ap (seen_with i.most i.created) (set_at c.args.id i.items.items c.in-Some.place (step_ended c.args.good) _ _ at c.index_mut.ensures.value c.step_ended.ensures.after))
