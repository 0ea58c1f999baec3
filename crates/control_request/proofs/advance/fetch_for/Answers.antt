use Rattle.control_request.proofs.AdvanceLemmas.{fetches_for}
use Rattle.control_request.proofs.advance.fetch_for.Goals as goal

pub returns-clause-does : goal.returns-clause-does
returns-clause-does g c =
    let asked = c.ask-outcome.ensures.asked in
    let end = c.end_fetch.ensures.made in
    fetches_for _ _ _ _ _ _ _ _ _ c.args.fetch c.args.plan.now c.args.target.now asked.0 c.ask-outcome.result end.0 end.1 c.step_after-step.result asked.2 asked.1 end.2 end.3 c.step_after-step.ensures c.ask-outcome.ensures.later c.ask-outcome.ensures.failed
