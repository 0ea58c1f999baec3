use Rattle.std.proofs.Common.{◌≡◌, ◌++◌, take}
use Rattle.verdict.proofs.sources.add_endpoints.Given as goal

abbrev pub invariant-endpoints : goal.invariant-endpoints
invariant-endpoints l = l.plan ≡ l.initial.plan ++ take l.endpoint-index l.endpoint-items
