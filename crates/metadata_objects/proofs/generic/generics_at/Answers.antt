use Rattle.std.proofs.lemmas.Result.{err_from_is_err_and}
use Rattle.std.proofs.Common.{map}
use Rattle.serde_json.specs.View.{items_of}
use Rattle.metadata_objects.specs.Generic.{generic_of, generics_of}
use Rattle.metadata_objects.proofs.Loops.{front_none, goes_on, ends, is_done}
use Rattle.metadata_objects.proofs.generic.generics_at.Goals as goal

pub items-init : goal.items-init
items-init g c = rw c.new-list.ensures (front_none _)

pub returns-in_err-generic : goal.returns-in_err-generic
returns-in_err-generic g c =
    let p = err_from_is_err_and c.from_residual-in_err-generic.result c.from_residual-in_err-generic.ensures.1 in
    let h = rw c.in_ok-place.ensures at c.in_err-generic.ensures in
    rw (p.1, p.2) (ends g.V.JsonValue.seen generic_of c.args.path.now c.args.items.now c.items.i c.items.so_far c.items.list (generics_of c.args.path.now c.args.count (items_of (map g.V.JsonValue.seen c.args.items.now))) c.items.invariant c.index-items-i.result c.items-test.true c.index-items-i.is _ h)

pub items-preserved : goal.items-preserved
items-preserved g c =
    let h = rw c.in_ok-place.ensures at c.in_ok-generic.ensures in
    rw c.in_ok-push.ensures.ok (goes_on g.V.JsonValue.seen generic_of c.args.path.now c.args.items.now c.items.i c.items.so_far c.items.list (generics_of c.args.path.now c.args.count (items_of (map g.V.JsonValue.seen c.args.items.now))) c.items.invariant c.index-items-i.result c.items-test.true c.index-items-i.is _ _ h)

pub returns : goal.returns
returns g c = is_done g.V.JsonValue.seen generic_of c.args.path.now c.args.items.now c.items.i c.items.so_far c.items.list (generics_of c.args.path.now c.args.count (items_of (map g.V.JsonValue.seen c.args.items.now))) c.items.invariant c.items-test.false
