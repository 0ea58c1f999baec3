use Rattle.std.proofs.Common.{ap, ◌∙◌, ◌++◌}
use Rattle.std.proofs.lemmas.Result.{on_ok_weaker}
use Rattle.audit_report.specs.Report.{value_at, values_at, values_of}
use Rattle.cdni_log.specs.Line.{tabbed}
use Rattle.cdni_log.proofs.ColumnLemmas.{append_two, tabbed_is}
use Rattle.audit_report.proofs.report.add_values.Goals as goal

pub returns : goal.returns
returns c =
    let values = values_of c.args.line.now in
    let whole = ap (λ places. tabbed (values_at values places)) c.in-Some.ensures.cases.0 ∙ tabbed_is (value_at values c.in-Some.first.now) (values_at values c.in-Some.others.now) in
    on_ok_weaker c.add_values_behind.result (λ behind. rw whole (append_two _ _ _ _ _ (c.in_ok-extend_from_slice.ensures.items ∙ ap (λ value. c.args.out.now.items ++ value) c.value_at.ensures) behind)) c.add_values_behind.ensures
