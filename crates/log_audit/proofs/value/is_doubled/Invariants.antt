use Rattle.std.proofs.Common.{◌≡◌, false, drop, is_some}
use Rattle.cdni_log.specs.Columns.{undoubled}
use Rattle.log_audit.proofs.value.is_doubled.Given as goal

abbrev pub invariant-bytes : goal.invariant-bytes
invariant-bytes l = is_some (undoubled l.waits (drop l.byte-index l.text)) ≡ is_some (undoubled false l.text)
