use Rattle.std.proofs.Common.{length}
use Rattle.audit_report.proofs.places.+are_next.Given as goal

abbrev pub decreases-are_next : goal.decreases-are_next
decreases-are_next l = length l.places.now
