use Rattle.std.proofs.Common.{refl}
use Rattle.std.proofs.lemmas.Result.{err_from_is_err_and}
use Rattle.trigger_command.specs.Draft.{pattern_at}
use Rattle.trigger_command.proofs.Loops.{then_fails}
use Rattle.trigger_command.proofs.draft.pattern_of.Goals as goal

pub returns-in_err-query : goal.returns-in_err-query
unfolding pattern_at
returns-in_err-query c =
    let p = err_from_is_err_and c.from_residual-in_err-query.result c.from_residual-in_err-query.ensures.1 in
    rw (p.1, p.2, c.in_ok-text.ensures, c.in_ok-case.ensures) (then_fails _ _ _ c.in_err-query.ensures)

pub returns : goal.returns
unfolding pattern_at
returns c = rw (c.in_ok-text.ensures, c.in_ok-case.ensures, c.in_ok-query.ensures) refl
