use Rattle.std.proofs.Common.{◌≡◌, ℕ, List, subst}
use Rattle.history.specs.After.{commanded}
use Rattle.trigger_status.specs.Job.{job_text}
use Rattle.control_request.proofs.AnswerLemmas.{same_resource}
use Rattle.control_request.proofs.answer.resource_of.Goals as goal

pub returns-in-Ok-text-clause-text : goal.returns-in-Ok-text-clause-text
returns-in-Ok-text-clause-text c = λ id. same_resource c.in-Ok-text.text 0 id c.args.spec c.args.moment
    (subst (λ (x : List ℕ). c.in-Ok-text.text ≡ job_text (record (commanded 0 c.args.spec c.args.moment).job { econtent = x })) c.in-Ok.ensures c.in-Ok-text.ensures)
