use Rattle.std.proofs.Common.{ap, ◌∙◌, map}
use Rattle.std.proofs.lemmas.Result.{on_ok_weaker}
use Rattle.cdni_log.specs.Field.{field_name}
use Rattle.cdni_log.specs.Line.{tabbed}
use Rattle.cdni_log.proofs.ColumnLemmas.{append_two, tabbed_is}
use Rattle.cdni_log.proofs.field_list.add_names.Goals as goal

pub returns : goal.returns
returns c =
    let first = c.in-Some.first.now in
    let others = map field_name c.in-Some.others.now in
    let whole = ap (λ fields. tabbed (map field_name fields)) c.in-Some.ensures.cases.0 ∙ tabbed_is (field_name first) others in
    on_ok_weaker c.add_names_behind.result (λ behind. rw whole (append_two _ _ _ _ _ (c.in_ok-add_name.ensures) behind)) c.add_names_behind.ensures
