use Rattle.trigger_table.proofs.Places.{placed}
use Rattle.trigger_table.proofs.triggers.Triggers.place_of.Goals as goal

pub returns : goal.returns
returns c = rw (← c.self.view_is, c.ok.ensures.value) (placed c.args.id c.self.inside.created c.self.inside.items.items c.self.inside.ids.items c.binary_search.result c.self.invariant.0 c.self.invariant.1 (rw c.deref.ensures.value at c.binary_search.ensures.position))
