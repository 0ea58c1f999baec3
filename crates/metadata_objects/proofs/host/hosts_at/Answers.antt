use Rattle.std.proofs.lemmas.List.{map-append}
use Rattle.std.proofs.lemmas.Result.{err_from_is_err_and}
use Rattle.std.proofs.Common.{map}
use Rattle.serde_json.specs.View.{items_of}
use Rattle.metadata_objects.specs.Host.{host_match_of, hosts_of}
use Rattle.metadata_objects.specs.LevelData.{hosts_view}
use Rattle.metadata_objects.proofs.Loops.{front_none, goes_on, ends, is_done}
use Rattle.metadata_objects.proofs.host.hosts_at.Goals as goal

pub items-init : goal.items-init
items-init g c = rw c.new-list.ensures (front_none _)

pub returns-in_err-host : goal.returns-in_err-host
returns-in_err-host g c =
    let p = err_from_is_err_and c.from_residual-in_err-host.result c.from_residual-in_err-host.ensures.1 in
    let h = rw c.in_ok-place.ensures at c.in_err-host.ensures in
    rw (p.1, p.2) (ends g.V.JsonValue.seen host_match_of c.args.path.now c.args.items.now c.items.i c.items.so_far (hosts_view c.items.list) (hosts_of c.args.path.now c.args.count (items_of (map g.V.JsonValue.seen c.args.items.now))) c.items.invariant c.index-items-i.result c.items-test.true c.index-items-i.is _ h)

pub items-preserved : goal.items-preserved
items-preserved g c =
    let h = rw c.in_ok-place.ensures at c.in_ok-host.ensures in
    rw (c.in_ok-push.ensures.ok, map-append) (goes_on g.V.JsonValue.seen host_match_of c.args.path.now c.args.items.now c.items.i c.items.so_far (hosts_view c.items.list) (hosts_of c.args.path.now c.args.count (items_of (map g.V.JsonValue.seen c.args.items.now))) c.items.invariant c.index-items-i.result c.items-test.true c.index-items-i.is _ _ h)

pub returns : goal.returns
returns g c = is_done g.V.JsonValue.seen host_match_of c.args.path.now c.args.items.now c.items.i c.items.so_far (hosts_view c.items.list) (hosts_of c.args.path.now c.args.count (items_of (map g.V.JsonValue.seen c.args.items.now))) c.items.invariant c.items-test.false
