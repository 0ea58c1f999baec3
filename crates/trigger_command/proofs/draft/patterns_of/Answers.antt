use Rattle.std.proofs.Common.{map}
use Rattle.std.proofs.lemmas.Result.{err_from_is_err_and}
use Rattle.serde_json.specs.View.{view}
use Rattle.trigger_command.specs.Draft.{each_of, pattern_at}
use Rattle.trigger_command.proofs.Loops.{front_none, place_read, place_fails, places_read}
use Rattle.trigger_command.proofs.draft.patterns_of.Goals as goal

pub items-init : goal.items-init
items-init c = rw c.new-list.ensures (front_none _)

pub returns-in_err-pattern : goal.returns-in_err-pattern
returns-in_err-pattern c =
    let p = err_from_is_err_and c.from_residual-in_err-pattern.result c.from_residual-in_err-pattern.ensures.1 in
    let h = rw c.in_ok-place.ensures at c.in_err-pattern.ensures in
    rw (p.1, p.2) (place_fails view pattern_at c.args.path.now c.args.items.now c.items.i c.items.list (each_of pattern_at c.args.path.now (map view c.args.items.now)) c.items.invariant c.index-items-i.result c.items-test.true c.index-items-i.is _ h)

pub items-preserved : goal.items-preserved
items-preserved c =
    let h = rw c.in_ok-place.ensures at c.in_ok-pattern.ensures in
    rw c.in_ok-push.ensures.ok (place_read view pattern_at c.args.path.now c.args.items.now c.items.i c.items.list (each_of pattern_at c.args.path.now (map view c.args.items.now)) c.items.invariant c.index-items-i.result c.items-test.true c.index-items-i.is _ h)

pub returns : goal.returns
returns c = places_read view pattern_at c.args.path.now c.args.items.now c.items.i c.items.list (each_of pattern_at c.args.path.now (map view c.args.items.now)) c.items.invariant c.items-test.false
