use Rattle.std.proofs.Common.{◌++◌, ap, sym, ◌∙◌, map}
use Rattle.cdni_log.specs.Field.{field_name}
use Rattle.cdni_log.specs.Line.{tabbed, tabbed_behind}
use Rattle.cdni_log.proofs.ColumnLemmas.{append_two, tabbed_is}
use Rattle.log_audit.proofs.head.written_names.Goals as goal

pub returns : goal.returns
returns c =
    let first = c.in-Some.first.now in
    let others = map field_name c.in-Some.others.now in
    let whole = ap (λ fields. tabbed (map field_name fields)) c.in-Some.ensures.cases.0 ∙ tabbed_is (field_name first) others in
    append_two _ _ _ _ _ c.in_ok-add_name.ensures c.in_ok-add_names_behind.ensures ∙ (ap (λ t. t ++ (field_name first ++ tabbed_behind others)) c.new-out.ensures.items ∙ sym whole)
