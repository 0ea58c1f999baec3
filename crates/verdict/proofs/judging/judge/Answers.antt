use Rattle.std.proofs.Common.{◌∙◌, ap}
use Rattle.std.specs.Option.{option_map_or}
use Rattle.verdict.specs.declared.judging.Verdict.TheVariants.{Allow, Deny}
use Rattle.verdict.proofs.VerdictLemmas.{denied_exactly, judged_allowed}
use Rattle.verdict.proofs.judging.judge.Goals as goal

pub returns-clause-allow : goal.returns-clause-allow
returns-clause-allow c =
    judged_allowed c.args.effective.now c.args.protocol c.args.place.now c.args.moment c.verdict_by.result (c.verdict_by.ensures ∙ ap (λ found. option_map_or Deny found Allow) c.in_ok-found.ensures)

pub returns-clause-deny : goal.returns-clause-deny
returns-clause-deny c =
    denied_exactly c.args.effective.now c.args.protocol c.args.place.now c.args.moment c.verdict_by.result (c.verdict_by.ensures ∙ ap (λ found. option_map_or Deny found Allow) c.in_ok-found.ensures)
