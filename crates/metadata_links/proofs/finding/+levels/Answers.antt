use Rattle.std.proofs.Common.{map, arith}
use Rattle.std.proofs.lemmas.Result.{err_from_is_err_and}
use Rattle.serde_json.specs.View.{items_of}
use Rattle.metadata_links.specs.Finding.{each_item, in_path}
use Rattle.metadata_links.proofs.Walks.{goes_on, ends, is_done, none_left, some_left}
use Rattle.metadata_links.proofs.finding.+levels.Goals as goal

pub list_each_path-returns-in_err-links : goal.list_each_path-returns-in_err-links
list_each_path-returns-in_err-links g t c =
    let p = err_from_is_err_and c.from_residual-in_err-links.result c.from_residual-in_err-links.ensures.1 in
    let h = rw c.in_ok-place.ensures at c.in_err-links.ensures in
    rw (p.1, p.2) (ends g.V.JsonValue.seen (in_path c.args.base.now c.args.left c.args.depth) c.args.path.now c.args.items.now c.items.i c.items.links (each_item (in_path c.args.base.now c.args.left c.args.depth) c.args.path.now 0 c.args.before (items_of (map g.V.JsonValue.seen c.args.items.now))) c.items.invariant c.index-items-i.result c.items-test.true c.index-items-i.is _ h)

pub list_each_path-items-preserved : goal.list_each_path-items-preserved
list_each_path-items-preserved g t c =
    let h = rw c.in_ok-place.ensures at c.in_ok-links.ensures in
    goes_on g.V.JsonValue.seen (in_path c.args.base.now c.args.left c.args.depth) c.args.path.now c.args.items.now c.items.i c.items.links (each_item (in_path c.args.base.now c.args.left c.args.depth) c.args.path.now 0 c.args.before (items_of (map g.V.JsonValue.seen c.args.items.now))) c.items.invariant c.index-items-i.result c.items-test.true c.index-items-i.is _ h

pub list_each_path-returns : goal.list_each_path-returns
list_each_path-returns g t c = is_done g.V.JsonValue.seen (in_path c.args.base.now c.args.left c.args.depth) c.args.path.now c.args.items.now c.items.i c.items.links (each_item (in_path c.args.base.now c.args.left c.args.depth) c.args.path.now 0 c.args.before (items_of (map g.V.JsonValue.seen c.args.items.now))) c.items.invariant c.items-test.false

pub list_path-returns-then-left-eq0 : goal.list_path-returns-then-left-eq0
list_path-returns-then-left-eq0 g t c = none_left c.args.base.now c.args.left c.args.depth _ _ _ c.if-left-eq0.true

pub list_path-returns : goal.list_path-returns
list_path-returns g t c = rw (some_left c.args.base.now c.args.left c.args.depth (omega arith)) c.list_path_within.ensures
