use Rattle.trigger_table.proofs.Places.{stays_ended}
use Rattle.trigger_table.proofs.triggers.Triggers.next_step.Goals as goal

pub returns-in-Some-clause-ended : goal.returns-in-Some-clause-ended
returns-in-Some-clause-ended c =
    let at = rw (← c.self.view_is) at c.in-Some.ensures in
    rw (← c.self.view_is) (stays_ended c.args.id c.self.inside.items.items c.in-Some.place _ c.next_step.result at c.index.ensures c.next_step.ensures.turn)
