use Rattle.std.proofs.Common.{◌≡◌, drop}
use Rattle.log_audit.specs.Value.{are_taken}
use Rattle.log_audit.proofs.url.are_taken.Given as goal

abbrev pub invariant-bytes : goal.invariant-bytes
invariant-bytes l = are_taken (drop l.at l.text) ≡ are_taken l.text
