use Rattle.std.proofs.Common.{◌≡◌, ◌++◌, drop}
use Rattle.trigger_cascade.specs.Report.{lines_of}
use Rattle.trigger_cascade.proofs.report.add_lines.Given as goal

abbrev pub invariant-cdns : goal.invariant-cdns
invariant-cdns l = l.out.items ++ lines_of (drop l.i l.cdns) ≡ l.initial.out.items ++ lines_of l.cdns
