use Rattle.std.proofs.Common.{◌≡◌, ◌+◌, drop}
use Rattle.targets.specs.Target.{first_wrong}
use Rattle.targets.proofs.target.first_wrong.Given as goal

abbrev pub invariant-bytes : goal.invariant-bytes
invariant-bytes l = first_wrong (l.from + l.at) (drop l.at l.text) ≡ first_wrong l.from l.text
