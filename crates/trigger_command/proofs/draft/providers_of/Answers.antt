use Rattle.std.proofs.Common.{map}
use Rattle.std.proofs.lemmas.Result.{err_from_is_err_and}
use Rattle.serde_json.specs.View.{view}
use Rattle.trigger_command.specs.Draft.{each_of, provider_at}
use Rattle.trigger_command.proofs.Loops.{front_none, place_read, place_fails, places_read}
use Rattle.trigger_command.proofs.draft.providers_of.Goals as goal

pub items-init : goal.items-init
items-init c = rw c.new-list.ensures (front_none _)

pub returns-in_err-id : goal.returns-in_err-id
returns-in_err-id c =
    let p = err_from_is_err_and c.from_residual-in_err-id.result c.from_residual-in_err-id.ensures.1 in
    let h = rw c.in_ok-place.ensures at c.in_err-id.ensures in
    rw (p.1, p.2) (place_fails view provider_at c.args.path.now c.args.items.now c.items.i c.items.list (each_of provider_at c.args.path.now (map view c.args.items.now)) c.items.invariant c.index-items-i.result c.items-test.true c.index-items-i.is _ h)

pub items-preserved : goal.items-preserved
items-preserved c =
    let h = rw c.in_ok-place.ensures at c.in_ok-id.ensures in
    rw c.in_ok-push.ensures.ok (place_read view provider_at c.args.path.now c.args.items.now c.items.i c.items.list (each_of provider_at c.args.path.now (map view c.args.items.now)) c.items.invariant c.index-items-i.result c.items-test.true c.index-items-i.is _ h)

pub returns : goal.returns
returns c = places_read view provider_at c.args.path.now c.args.items.now c.items.i c.items.list (each_of provider_at c.args.path.now (map view c.args.items.now)) c.items.invariant c.items-test.false
