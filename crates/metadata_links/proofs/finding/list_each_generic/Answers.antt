use Rattle.std.proofs.Common.{map}
use Rattle.std.proofs.lemmas.Result.{err_from_is_err_and}
use Rattle.serde_json.specs.View.{items_of}
use Rattle.metadata_links.specs.Finding.{each_item, in_generic}
use Rattle.metadata_links.proofs.Walks.{goes_on, ends, is_done}
use Rattle.metadata_links.proofs.finding.list_each_generic.Goals as goal

pub returns-in_err-links : goal.returns-in_err-links
returns-in_err-links g c =
    let p = err_from_is_err_and c.from_residual-in_err-links.result c.from_residual-in_err-links.ensures.1 in
    let h = rw c.in_ok-place.ensures at c.in_err-links.ensures in
    rw (p.1, p.2) (ends g.V.JsonValue.seen (in_generic c.args.base.now c.args.depth) c.args.path.now c.args.items.now c.items.i c.items.links (each_item (in_generic c.args.base.now c.args.depth) c.args.path.now 0 c.args.before (items_of (map g.V.JsonValue.seen c.args.items.now))) c.items.invariant c.index-items-i.result c.items-test.true c.index-items-i.is _ h)

pub items-preserved : goal.items-preserved
items-preserved g c =
    let h = rw c.in_ok-place.ensures at c.in_ok-links.ensures in
    goes_on g.V.JsonValue.seen (in_generic c.args.base.now c.args.depth) c.args.path.now c.args.items.now c.items.i c.items.links (each_item (in_generic c.args.base.now c.args.depth) c.args.path.now 0 c.args.before (items_of (map g.V.JsonValue.seen c.args.items.now))) c.items.invariant c.index-items-i.result c.items-test.true c.index-items-i.is _ h

pub returns : goal.returns
returns g c = is_done g.V.JsonValue.seen (in_generic c.args.base.now c.args.depth) c.args.path.now c.args.items.now c.items.i c.items.links (each_item (in_generic c.args.base.now c.args.depth) c.args.path.now 0 c.args.before (items_of (map g.V.JsonValue.seen c.args.items.now))) c.items.invariant c.items-test.false
