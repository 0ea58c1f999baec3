use Rattle.std.proofs.Common.{sym, ◌∙◌}
use Rattle.metadata_objects.proofs.Loops.{each_goes_on, each_stops, each_done}
use Rattle.metadata_objects.proofs.items.each.Goals as goal

pub returns-in_default : goal.returns-in_default
returns-in_default g c = each_stops g.V.JsonValue.seen g.T.Item.reads c.args.items.now c.items.i c.items.list _ c.items.invariant c.index-items-i.result c.items-test.true c.index-items-i.is (sym c.in_default.is ∙ c.in_ok-item.ensures)

pub items-preserved : goal.items-preserved
items-preserved g c = rw c.in_ok-push.ensures.ok (each_goes_on g.V.JsonValue.seen g.T.Item.reads c.args.items.now c.items.i c.items.list _ c.items.invariant c.index-items-i.result c.items-test.true c.index-items-i.is _ (sym c.in-Some.is ∙ c.in_ok-item.ensures))

pub returns : goal.returns
returns g c = each_done g.V.JsonValue.seen g.T.Item.reads c.args.items.now c.items.i c.items.list _ c.items.invariant c.items-test.false
