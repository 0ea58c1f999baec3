use Rattle.std.proofs.Common.{◌++◌, ap, sym, ◌∙◌}
use Rattle.std.proofs.lemmas.Result.{on_ok_weaker}
use Rattle.cdni_log.specs.Line.{tabbed, tabbed_behind}
use Rattle.cdni_log.specs.Row.{value_of, values_from}
use Rattle.cdni_log.proofs.ColumnLemmas.{append_two, values_tabbed}
use Rattle.cdni_log.proofs.record.add_values.Goals as goal

pub returns : goal.returns
returns c =
    let row = c.args.row.now in
    let first = c.in-Some.first.now in
    let others = c.in-Some.others.now in
    let cut = ap (λ fields. tabbed (values_from row 0 fields)) c.in-Some.ensures.cases.0 ∙ values_tabbed row first others in
    let whole = cut ∙ ap (λ n. value_of row 0 first ++ tabbed_behind (values_from row n others)) (sym c.header_count.ensures.count) in
    on_ok_weaker c.add_values_behind.result (λ behind. rw whole (append_two _ _ _ _ _ (c.in_ok-add_value.ensures) behind)) c.add_values_behind.ensures
