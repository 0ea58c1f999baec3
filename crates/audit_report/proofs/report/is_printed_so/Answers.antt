use Rattle.std.proofs.Common.{length, sym, ◌∙◌}
use Rattle.std.proofs.lemmas.Bool.{eqb-true}
use Rattle.audit_report.proofs.ReportLemmas.{printed_so}
use Rattle.audit_report.proofs.report.is_printed_so.Goals as goal

pub returns-then-in_order : goal.returns-then-in_order
returns-then-in_order c = λ same. printed_so c.args.line.now c.args.places.now (sym c.requires ∙ c.if-in_order.true)
    (sym c.count_values.ensures ∙ eqb-true c.count_values.result (length c.args.places.now) same)
