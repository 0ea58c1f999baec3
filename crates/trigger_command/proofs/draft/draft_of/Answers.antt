use Rattle.std.proofs.Common.{refl}
use Rattle.std.proofs.lemmas.Result.{err_from_is_err_and}
use Rattle.trigger_command.specs.Draft.{draft_at}
use Rattle.trigger_command.proofs.Loops.{then_fails}
use Rattle.trigger_command.proofs.draft.draft_of.Goals as goal

pub returns-in_err-content_urls : goal.returns-in_err-content_urls
unfolding draft_at
returns-in_err-content_urls c =
    let p = err_from_is_err_and c.from_residual-in_err-content_urls.result c.from_residual-in_err-content_urls.ensures.1 in
    rw (p.1, p.2, c.in_ok-kind.ensures, c.in_ok-metadata_urls.ensures) (then_fails _ _ _ c.in_err-content_urls.ensures)

pub returns-in_err-ccids : goal.returns-in_err-ccids
unfolding draft_at
returns-in_err-ccids c =
    let p = err_from_is_err_and c.from_residual-in_err-ccids.result c.from_residual-in_err-ccids.ensures.1 in
    rw (p.1, p.2, c.in_ok-kind.ensures, c.in_ok-metadata_urls.ensures, c.in_ok-content_urls.ensures) (then_fails _ _ _ c.in_err-ccids.ensures)

pub returns-in_err-metadata_patterns : goal.returns-in_err-metadata_patterns
unfolding draft_at
returns-in_err-metadata_patterns c =
    let p = err_from_is_err_and c.from_residual-in_err-metadata_patterns.result c.from_residual-in_err-metadata_patterns.ensures.1 in
    rw (p.1, p.2, c.in_ok-kind.ensures, c.in_ok-metadata_urls.ensures, c.in_ok-content_urls.ensures, c.in_ok-ccids.ensures) (then_fails _ _ _ c.in_err-metadata_patterns.ensures)

pub returns-in_err-content_patterns : goal.returns-in_err-content_patterns
unfolding draft_at
returns-in_err-content_patterns c =
    let p = err_from_is_err_and c.from_residual-in_err-content_patterns.result c.from_residual-in_err-content_patterns.ensures.1 in
    rw (p.1, p.2, c.in_ok-kind.ensures, c.in_ok-metadata_urls.ensures, c.in_ok-content_urls.ensures, c.in_ok-ccids.ensures, c.in_ok-metadata_patterns.ensures) (then_fails _ _ _ c.in_err-content_patterns.ensures)

pub returns : goal.returns
unfolding draft_at
returns c = rw (c.in_ok-kind.ensures, c.in_ok-metadata_urls.ensures, c.in_ok-content_urls.ensures, c.in_ok-ccids.ensures, c.in_ok-metadata_patterns.ensures, c.in_ok-content_patterns.ensures) refl
