use Rattle.std.proofs.Common.{◌≡◌, drop}
use Rattle.log_audit.specs.LogFile.{are_uuid_bytes}
use Rattle.log_audit.proofs.head.are_uuid_bytes.Given as goal

abbrev pub invariant-bytes : goal.invariant-bytes
invariant-bytes l = are_uuid_bytes l.place (drop l.place l.text) ≡ are_uuid_bytes 0 l.text
