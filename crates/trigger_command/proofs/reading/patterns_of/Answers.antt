use Rattle.std.proofs.Common.{◌≡◌, ◌+◌, [], ◌∷◌, refl, arith, length-append}
use Rattle.std.proofs.lemmas.Result.{err_from_is_err_and}
use Rattle.trigger_command.specs.Draft.{each_from}
use Rattle.trigger_command.specs.Reading.{pattern_item_at}
use Rattle.trigger_command.proofs.Loops.{fails_on, goes_on, ends, is_done, numbered_first}
use Rattle.trigger_command.proofs.reading.patterns_of.Goals as goal

pub drafts-init : goal.drafts-init
drafts-init c = rw c.new-list.ensures record { read = numbered_first pattern_item_at c.args.from c.args.drafts.now; count = refl }

pub returns-in_err-item-clause-value : goal.returns-in_err-item-clause-value
returns-in_err-item-clause-value c =
    let p = err_from_is_err_and c.from_residual.result c.from_residual.ensures.1 in
    rw (p.1, p.2) (fails_on _ _ _ (ends pattern_item_at (c.args.from + c.drafts.i) c.args.drafts.now c.drafts.i c.drafts.list (each_from pattern_item_at c.args.from c.args.drafts.now) c.drafts.invariant.read c.index-drafts-i.result c.drafts-test.true c.index-drafts-i.is) c.in_err-item.ensures)

pub drafts-preserved : goal.drafts-preserved
drafts-preserved c =
    let next : c.args.from + (c.drafts.i + 1) ≡ c.args.from + c.drafts.i + 1 = omega arith in
    let read = goes_on pattern_item_at (c.args.from + c.drafts.i) c.args.drafts.now c.drafts.i c.drafts.list (each_from pattern_item_at c.args.from c.args.drafts.now) c.drafts.invariant.read c.index-drafts-i.result c.drafts-test.true c.index-drafts-i.is _ c.in_ok-item.ensures in
    rw c.in_ok-push.ensures.ok record {
      read = rw next read;
      count = omega (arith, length-append c.drafts.list (c.in_ok-item.item ∷ []), c.drafts.invariant.count);
    }

pub returns : goal.returns
returns c = record {
  value = is_done pattern_item_at (c.args.from + c.drafts.i) c.args.drafts.now c.drafts.i c.drafts.list (each_from pattern_item_at c.args.from c.args.drafts.now) c.drafts.invariant.read c.drafts-test.false;
  count = omega (arith, c.drafts.invariant.count);
}
