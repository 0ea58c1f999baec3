use Rattle.std.proofs.Common.{◌≡◌, ◌++◌, ◌∷◌, [], take}
use Rattle.std.specs.List.{flat_map}
use Rattle.cdni_log.specs.Line.{tabbed}
use Rattle.audit_report.specs.Report.{values_at, values_of}
use Rattle.audit_report.proofs.report.add_records.Given as goal

abbrev pub invariant-records : goal.invariant-records
invariant-records l = l.out.items ≡ l.initial.out.items ++ flat_map (λ line. tabbed (values_at (values_of line) l.places) ++ 10 ∷ []) (take l.record-index l.records)
