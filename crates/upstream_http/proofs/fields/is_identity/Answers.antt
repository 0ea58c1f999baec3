use Rattle.std.proofs.Common.{◌∙◌, true, codes}
use Rattle.upstream_http.specs.Fields.{is_no_coding}
use Rattle.field_list.specs.List.{items_of}
use Rattle.field_list.proofs.ListLemmas.{all_by_fold}
use Rattle.upstream_http.proofs.fields.is_identity.Goals as goal

pub returns : goal.returns
returns c = c.result.view_is ∙ c.told_by.ensures ∙ all_by_fold is_no_coding (items_of (codes "content-encoding") c.args.head.now.headers) true
