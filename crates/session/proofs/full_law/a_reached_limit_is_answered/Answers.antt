use Rattle.session.proofs.FullLemmas.{content_full, content_only, full_control, only_control}
use Rattle.session.proofs.full_law.a_reached_limit_is_answered.Goals as goal

pub returns-clause-content : goal.returns-clause-content
returns-clause-content c = content_full

pub returns-clause-only_content : goal.returns-clause-only_content
returns-clause-only_content c = content_only

pub returns-clause-control : goal.returns-clause-control
returns-clause-control c = full_control

pub returns-clause-only_control : goal.returns-clause-only_control
returns-clause-only_control c = only_control
