use Rattle.std.proofs.Common.{sym, ◌∙◌}
use Rattle.metadata_objects.specs.Lists.{footprint_value_in}
use Rattle.metadata_objects.proofs.Loops.{each_goes_on, each_stops, each_done, were_added, were_not_added}
use Rattle.metadata_objects.proofs.location.add_values.Goals as goal

pub returns-in_default : goal.returns-in_default
returns-in_default g c = were_not_added c.args.all.now c.items.all _
    (each_stops g.V.JsonValue.seen (footprint_value_in c.args.kind) c.args.items.now c.items.i c.items.all _ c.items.invariant c.index-items-i.result c.items-test.true c.index-items-i.is (sym c.in_default.is ∙ c.value_of.ensures))

pub items-preserved : goal.items-preserved
items-preserved g c = rw c.in_ok-push.ensures.ok (each_goes_on g.V.JsonValue.seen (footprint_value_in c.args.kind) c.args.items.now c.items.i c.items.all _ c.items.invariant c.index-items-i.result c.items-test.true c.index-items-i.is _ (sym c.in-Some.is ∙ c.value_of.ensures))

pub returns : goal.returns
returns g c = were_added c.args.all.now c.items.all _ (each_done g.V.JsonValue.seen (footprint_value_in c.args.kind) c.args.items.now c.items.i c.items.all _ c.items.invariant c.items-test.false)
