use Rattle.std.proofs.Common.{◌≡◌, ◌+◌, [], ◌∷◌, refl, arith, length-append}
use Rattle.std.proofs.lemmas.Result.{err_from_is_err_and}
use Rattle.trigger_command.specs.Draft.{each_from}
use Rattle.trigger_command.specs.Reading.{url_at}
use Rattle.trigger_command.proofs.Loops.{fails_on, goes_on, ends, is_done, numbered_first}
use Rattle.trigger_command.proofs.reading.urls_of.Goals as goal

pub texts-init : goal.texts-init
texts-init c = rw c.new-list.ensures record { read = numbered_first url_at c.args.from c.args.texts.now; count = refl }

pub returns-in_err-item-clause-value : goal.returns-in_err-item-clause-value
returns-in_err-item-clause-value c =
    let p = err_from_is_err_and c.from_residual.result c.from_residual.ensures.1 in
    rw (p.1, p.2) (fails_on _ _ _ (ends url_at (c.args.from + c.texts.i) c.args.texts.now c.texts.i c.texts.list (each_from url_at c.args.from c.args.texts.now) c.texts.invariant.read c.index-texts-i.result c.texts-test.true c.index-texts-i.is) c.in_err-item.ensures)

pub texts-preserved : goal.texts-preserved
texts-preserved c =
    let next : c.args.from + (c.texts.i + 1) ≡ c.args.from + c.texts.i + 1 = omega arith in
    let read = goes_on url_at (c.args.from + c.texts.i) c.args.texts.now c.texts.i c.texts.list (each_from url_at c.args.from c.args.texts.now) c.texts.invariant.read c.index-texts-i.result c.texts-test.true c.index-texts-i.is _ c.in_ok-item.ensures in
    rw c.in_ok-push.ensures.ok record {
      read = rw next read;
      count = omega (arith, length-append c.texts.list (c.in_ok-item.item ∷ []), c.texts.invariant.count);
    }

pub returns : goal.returns
returns c = record {
  value = is_done url_at (c.args.from + c.texts.i) c.args.texts.now c.texts.i c.texts.list (each_from url_at c.args.from c.args.texts.now) c.texts.invariant.read c.texts-test.false;
  count = omega (arith, c.texts.invariant.count);
}
