use Rattle.std.proofs.Common.{◌∙◌}
use Rattle.std.proofs.lemmas.Bool.{ne_eqb}
use Rattle.session_base.proofs.RequestLemmas.{close_said}
use Rattle.session_base.proofs.request.says_close.Goals as goal

pub returns-else-minor-eq0 : goal.returns-else-minor-eq0
returns-else-minor-eq0 c = close_said c.args.head.now _ (ne_eqb _ _ (λ same. c.if-minor-eq0.false (c.minor.ensures ∙ same))) (c.result.view_is ∙ c.told_by.ensures)
