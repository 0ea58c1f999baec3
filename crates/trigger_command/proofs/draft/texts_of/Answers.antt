use Rattle.std.proofs.Common.{map}
use Rattle.std.proofs.lemmas.Result.{err_from_is_err_and}
use Rattle.serde_json.specs.View.{view}
use Rattle.json_read.specs.Field.{text_of}
use Rattle.trigger_command.specs.Draft.{each_of}
use Rattle.trigger_command.proofs.Loops.{front_none, place_read, place_fails, places_read}
use Rattle.trigger_command.proofs.draft.texts_of.Goals as goal

pub items-init : goal.items-init
items-init c = rw c.new-list.ensures (front_none _)

pub returns-in_err-text : goal.returns-in_err-text
returns-in_err-text c =
    let p = err_from_is_err_and c.from_residual-in_err-text.result c.from_residual-in_err-text.ensures.1 in
    let h = rw c.in_ok-place.ensures at c.in_err-text.ensures in
    rw (p.1, p.2) (place_fails view text_of c.args.path.now c.args.items.now c.items.i c.items.list (each_of text_of c.args.path.now (map view c.args.items.now)) c.items.invariant c.index-items-i.result c.items-test.true c.index-items-i.is _ h)

pub items-preserved : goal.items-preserved
items-preserved c =
    let h = rw c.in_ok-place.ensures at c.in_ok-text.ensures in
    rw c.in_ok-push.ensures.ok (place_read view text_of c.args.path.now c.args.items.now c.items.i c.items.list (each_of text_of c.args.path.now (map view c.args.items.now)) c.items.invariant c.index-items-i.result c.items-test.true c.index-items-i.is _ h)

pub returns : goal.returns
returns c = places_read view text_of c.args.path.now c.args.items.now c.items.i c.items.list (each_of text_of c.args.path.now (map view c.args.items.now)) c.items.invariant c.items-test.false
