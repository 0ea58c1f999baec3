use Rattle.std.proofs.Common.{Ok, Err, refl}
use Rattle.std.proofs.lemmas.Result.{err_from_is_err_and}
use Rattle.metadata_links.proofs.Following.{not_fetch}
use Rattle.metadata_links.proofs.tree.gather.Goals as goal

pub returns-in_err-gathering-clause-gathers : goal.returns-in_err-gathering-clause-gathers
returns-in_err-gathering-clause-gathers g c =
    let p = err_from_is_err_and c.from_residual.result c.from_residual.ensures.1 in
    let got = c.in_err-gathering.ensures.gathers in
    rw (p.1, p.2) (got.0, got.1, (Err c.in_err-gathering.field-0.0, got.2, refl))

pub returns-clause-gathers : goal.returns-clause-gathers
returns-clause-gathers g c =
    let got = c.in_ok-gathering.ensures.gathers in (got.0, got.1, (Ok c.in_ok-gathering.gathering, got.2, c.tree_of.ensures.tree))

pub returns-clause-failed : goal.returns-clause-failed
returns-clause-failed g c = λ is. absurd (not_fetch c.tree_of.result c.tree_of.ensures.no_fetch is)
