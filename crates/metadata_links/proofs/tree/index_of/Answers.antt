use Rattle.std.proofs.lemmas.Result.{err_from_is_err_and}
use Rattle.metadata_links.proofs.Trees.{index_is, not_read}
use Rattle.metadata_links.proofs.tree.index_of.Goals as goal

pub returns-in_err-values : goal.returns-in_err-values
returns-in_err-values c =
    let p = err_from_is_err_and c.from_residual-in_err-values.result c.from_residual-in_err-values.ensures.1 in
    rw (p.1, p.2) (not_read c.args.texts.now _ c.in_err-values.ensures)

pub returns : goal.returns
returns c = rw (index_is c.args.texts.now _ c.in_ok-values.ensures, ← c.whole_of.ensures) c.of_value.ensures.value
