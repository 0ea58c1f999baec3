use Rattle.std.proofs.Common.{None, refl}
use Rattle.control_request.specs.declared.advance.Step.TheVariants as step
use Rattle.control_request.proofs.AdvanceLemmas.{refreshes_for}
use Rattle.control_request.proofs.advance.refresh_for.Goals as goal

pub returns-in-Ok-clause-does : goal.returns-in-Ok-clause-does
returns-in-Ok-clause-does g c =
    let asked = c.in-Ok.ensures.gathers in
    let end = c.end_refresh.ensures.made in
    refreshes_for _ _ _ _ _ _ _ _ _ c.args.root.now c.args.refresh asked.0 _ end.0 end.1 step.Goes asked.2 asked.1 end.2 end.3 c.in-Ok.ensures.later

pub returns-in-Err-clause-does : goal.returns-in-Err-clause-does
returns-in-Err-clause-does g c =
    let asked = c.in-Err.ensures.gathers in
    let end = c.end_refresh-in-Err.ensures.made in
    refreshes_for _ _ _ _ _ _ _ _ _ c.args.root.now c.args.refresh asked.0 None end.0 end.1 step.Memory (asked.2, refl) asked.1 end.2 end.3 c.in-Err.ensures.later
