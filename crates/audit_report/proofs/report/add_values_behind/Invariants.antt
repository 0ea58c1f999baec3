use Rattle.std.proofs.Common.{◌≡◌, ◌++◌, take}
use Rattle.cdni_log.specs.Line.{tabbed_behind}
use Rattle.audit_report.specs.Report.{values_at, values_of}
use Rattle.audit_report.proofs.report.add_values_behind.Given as goal

abbrev pub invariant-places : goal.invariant-places
invariant-places l = l.out.items ≡ l.initial.out.items ++ tabbed_behind (values_at (values_of l.line) (take l.place-index l.places))
