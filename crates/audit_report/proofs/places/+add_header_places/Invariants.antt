use Rattle.std.proofs.Common.{length}
use Rattle.audit_report.proofs.places.+add_header_places.Given as goal

abbrev pub decreases-add_header_places : goal.decreases-add_header_places
decreases-add_header_places l = length l.some.now
