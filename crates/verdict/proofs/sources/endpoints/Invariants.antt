use Rattle.std.proofs.Common.{◌≡◌, ◌++◌, drop}
use Rattle.verdict.specs.Plan.{plan_from}
use Rattle.verdict.proofs.sources.endpoints.Given as goal

abbrev pub invariant-sources : goal.invariant-sources
invariant-sources l = l.plan ++ plan_from (drop l.source-index l.sources) ≡ plan_from l.sources
