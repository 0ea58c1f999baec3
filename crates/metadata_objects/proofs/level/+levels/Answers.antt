use Rattle.std.proofs.Common.{sym, ◌∙◌, arith, map}
use Rattle.std.proofs.lemmas.List.{map-append}
use Rattle.std.proofs.lemmas.Result.{err_from_is_err_and}
use Rattle.serde_json.specs.View.{items_of}
use Rattle.metadata_objects.specs.Level.{path_match_of}
use Rattle.metadata_objects.specs.Reading.{all_of}
use Rattle.metadata_objects.specs.LevelData.{paths_view}
use Rattle.metadata_objects.proofs.Loops.{goes_on, ends, is_done}
use Rattle.metadata_objects.proofs.Nesting.{some_left, is_fault, uncounted, too_deep}
use Rattle.metadata_objects.proofs.level.+levels.Goals as goal

pub path_match_at-returns-in_err-one_more : goal.path_match_at-returns-in_err-one_more
path_match_at-returns-in_err-one_more g t c =
    let p = err_from_is_err_and c.from_residual.result c.from_residual.ensures.1 in
    rw (p.1, p.2) (is_fault _ _ (uncounted c.args.left c.args.path.now c.args.count _ _ c.if-left-eq0.true (sym c.one_more.ensures ∙ c.in_err-one_more.was)))

pub path_match_at-returns-then-left-eq0 : goal.path_match_at-returns-then-left-eq0
path_match_at-returns-then-left-eq0 g t c = too_deep c.args.left c.args.path.now c.args.count _ _ c.if-left-eq0.true (sym c.one_more.ensures ∙ c.in_ok-one_more.was)

pub path_match_at-returns : goal.path_match_at-returns
path_match_at-returns g t c = rw (some_left c.args.left _ _ _ (omega arith)) c.path_match_within.ensures

pub path_matches_at-returns-in_err-path_match : goal.path_matches_at-returns-in_err-path_match
path_matches_at-returns-in_err-path_match g t c =
    let p = err_from_is_err_and c.from_residual-in_err-path_match.result c.from_residual-in_err-path_match.ensures.1 in
    let h = rw c.in_ok-place.ensures at c.in_err-path_match.ensures in
    rw (p.1, p.2) (ends g.V.JsonValue.seen (path_match_of c.args.left) c.args.path.now c.args.items.now c.items.i c.items.so_far (paths_view c.items.list.items) (all_of (path_match_of c.args.left) c.args.path.now 0 c.args.count (items_of (map g.V.JsonValue.seen c.args.items.now))) c.items.invariant c.index-items-i.result c.items-test.true c.index-items-i.is _ h)

pub path_matches_at-items-preserved : goal.path_matches_at-items-preserved
path_matches_at-items-preserved g t c =
    let h = rw c.in_ok-place.ensures at c.in_ok-path_match.ensures in
    rw (c.in-Ok.ensures.items, map-append) (goes_on g.V.JsonValue.seen (path_match_of c.args.left) c.args.path.now c.args.items.now c.items.i c.items.so_far (paths_view c.items.list.items) (all_of (path_match_of c.args.left) c.args.path.now 0 c.args.count (items_of (map g.V.JsonValue.seen c.args.items.now))) c.items.invariant c.index-items-i.result c.items-test.true c.index-items-i.is _ _ h)

pub path_matches_at-returns : goal.path_matches_at-returns
path_matches_at-returns g t c = is_done g.V.JsonValue.seen (path_match_of c.args.left) c.args.path.now c.args.items.now c.items.i c.items.so_far (paths_view c.items.list.items) (all_of (path_match_of c.args.left) c.args.path.now 0 c.args.count (items_of (map g.V.JsonValue.seen c.args.items.now))) c.items.invariant c.items-test.false
