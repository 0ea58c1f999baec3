use Rattle.metadata_objects.specs.Lists.{footprints_in}
use Rattle.metadata_objects.proofs.Loops.{joined_goes_on, joined_stops, joined_done}
use Rattle.metadata_objects.proofs.location.joined.Goals as goal

pub returns-then-not-branch : goal.returns-then-not-branch
returns-then-not-branch g c =
    let none = rw c.if-not-branch.true at c.in_ok-add_footprints.ensures in
    joined_stops g.V.JsonValue.seen footprints_in c.args.items.now c.items.i c.items.all _ c.items.invariant c.index-items-i.result c.items-test.true c.index-items-i.is c.add_footprints.new.all none

pub items-preserved : goal.items-preserved
items-preserved g c =
    let added = rw c.if-not-branch.false at c.in_ok-add_footprints.ensures in
    joined_goes_on g.V.JsonValue.seen footprints_in c.args.items.now c.items.i c.items.all _ c.items.invariant c.index-items-i.result c.items-test.true c.index-items-i.is c.add_footprints.new.all added

pub returns : goal.returns
returns g c = joined_done g.V.JsonValue.seen footprints_in c.args.items.now c.items.i c.items.all _ c.items.invariant c.items-test.false
