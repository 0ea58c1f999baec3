use Rattle.std.proofs.Common.{arith}
use Rattle.std.proofs.lemmas.Result.{err_from_is_err_and}
use Rattle.metadata_links.proofs.Trees.{front_none, one_value_more, no_value, all_values}
use Rattle.metadata_links.proofs.tree.values_of.Goals as goal

pub texts-init : goal.texts-init
texts-init c = rw c.new-values.ensures.items (front_none _)

pub returns-in_err-value : goal.returns-in_err-value
returns-in_err-value c =
    let p = err_from_is_err_and c.from_residual.result c.from_residual.ensures.1 in
    rw (p.1, p.2) (no_value c.args.texts.now c.texts.i c.texts.values.items c.texts.invariant c.index-texts-i.result _ (omega (arith, c.texts-test.true)) c.index-texts-i.is c.in_err-value.ensures)

pub texts-preserved : goal.texts-preserved
texts-preserved c = one_value_more c.args.texts.now c.texts.i c.texts.values.items c.texts.invariant c.index-texts-i.result c.in_ok-value.value c.push.new.self.items (omega (arith, c.texts-test.true)) c.index-texts-i.is c.in_ok-value.ensures c.in-Ok.ensures.items

pub returns : goal.returns
returns c = all_values c.args.texts.now c.texts.i c.texts.values.items c.texts.invariant (omega (arith, c.texts-test.false))
