use Rattle.std.proofs.Common.{refl}
use Rattle.std.proofs.lemmas.Result.{err_from_is_err_and}
use Rattle.trigger_command.specs.Reading.{selection_of}
use Rattle.trigger_command.proofs.Loops.{judged_then_fails}
use Rattle.trigger_command.proofs.reading.selection_of.Goals as goal

pub returns-in_err-metadata_urls-clause-value : goal.returns-in_err-metadata_urls-clause-value
unfolding selection_of
returns-in_err-metadata_urls-clause-value c =
    let wrong = rw c.as_slice.ensures at c.in_err-metadata_urls.ensures.value in
    let p = err_from_is_err_and c.from_residual.result c.from_residual.ensures.1 in
    rw (p.1, p.2) (judged_then_fails _ _ _ wrong)

pub returns-in_err-content_urls-clause-value : goal.returns-in_err-content_urls-clause-value
unfolding selection_of
returns-in_err-content_urls-clause-value c =
    let h1 = rw c.as_slice.ensures at c.in_ok-metadata_urls.ensures.value in
    let wrong = rw (c.as_slice-2.ensures, c.len.ensures) at c.in_err-content_urls.ensures.value in
    let p = err_from_is_err_and c.from_residual-in_err-content_urls.result c.from_residual-in_err-content_urls.ensures.1 in
    rw (p.1, p.2, h1) (judged_then_fails _ _ _ wrong)

pub returns-in_err-metadata_patterns-clause-value : goal.returns-in_err-metadata_patterns-clause-value
unfolding selection_of
returns-in_err-metadata_patterns-clause-value c =
    let h1 = rw c.as_slice.ensures at c.in_ok-metadata_urls.ensures.value in
    let h2 = rw (c.as_slice-2.ensures, c.len.ensures) at c.in_ok-content_urls.ensures.value in
    let wrong = rw c.as_slice-3.ensures at c.in_err-metadata_patterns.ensures.value in
    let p = err_from_is_err_and c.from_residual-in_err-metadata_patterns.result c.from_residual-in_err-metadata_patterns.ensures.1 in
    rw (p.1, p.2, h1, h2) (judged_then_fails _ _ _ wrong)

pub returns-in_err-content_patterns-clause-value : goal.returns-in_err-content_patterns-clause-value
unfolding selection_of
returns-in_err-content_patterns-clause-value c =
    let h1 = rw c.as_slice.ensures at c.in_ok-metadata_urls.ensures.value in
    let h2 = rw (c.as_slice-2.ensures, c.len.ensures) at c.in_ok-content_urls.ensures.value in
    let h3 = rw c.as_slice-3.ensures at c.in_ok-metadata_patterns.ensures.value in
    let wrong = rw (c.as_slice-4.ensures, c.len-2.ensures) at c.in_err-content_patterns.ensures.value in
    let p = err_from_is_err_and c.from_residual-in_err-content_patterns.result c.from_residual-in_err-content_patterns.ensures.1 in
    rw (p.1, p.2, h1, h2, h3) (judged_then_fails _ _ _ wrong)

pub returns-clause-value : goal.returns-clause-value
unfolding selection_of
returns-clause-value c =
    let h1 = rw c.as_slice.ensures at c.in_ok-metadata_urls.ensures.value in
    let h2 = rw (c.as_slice-2.ensures, c.len.ensures) at c.in_ok-content_urls.ensures.value in
    let h3 = rw c.as_slice-3.ensures at c.in_ok-metadata_patterns.ensures.value in
    let h4 = rw (c.as_slice-4.ensures, c.len-2.ensures) at c.in_ok-content_patterns.ensures.value in
    rw (h1, h2, h3, h4) refl
