use Rattle.std.proofs.lemmas.Result.{err_from_is_err_and}
use Rattle.trigger_command.specs.Draft.{each_from}
use Rattle.trigger_command.specs.Reading.{number_at}
use Rattle.trigger_command.proofs.Loops.{front_none, fails_on, goes_on, ends, is_done}
use Rattle.trigger_command.proofs.reading.numbers_of.Goals as goal

pub texts-init : goal.texts-init
texts-init c = rw c.new-list.ensures (front_none _)

pub returns-in_err-number : goal.returns-in_err-number
returns-in_err-number c =
    let p = err_from_is_err_and c.from_residual.result c.from_residual.ensures.1 in
    rw (p.1, p.2) (fails_on _ _ _ (ends (number_at c.args.control.now) c.texts.i c.args.texts.now c.texts.i c.texts.list (each_from (number_at c.args.control.now) 0 c.args.texts.now) c.texts.invariant c.index-texts-i.result c.texts-test.true c.index-texts-i.is) c.in_err-number.ensures)

pub texts-preserved : goal.texts-preserved
texts-preserved c =
    rw c.in_ok-push.ensures.ok (goes_on (number_at c.args.control.now) c.texts.i c.args.texts.now c.texts.i c.texts.list (each_from (number_at c.args.control.now) 0 c.args.texts.now) c.texts.invariant c.index-texts-i.result c.texts-test.true c.index-texts-i.is _ c.in_ok-number.ensures)

pub returns : goal.returns
returns c = is_done (number_at c.args.control.now) c.texts.i c.args.texts.now c.texts.i c.texts.list (each_from (number_at c.args.control.now) 0 c.args.texts.now) c.texts.invariant c.texts-test.false
