use Rattle.std.proofs.Common.{List, true, false, codes, subst, ◌≡◌, ◌++◌, ◌∙◌}
use Rattle.trigger_status.specs.Write.{AddsOne}
use Rattle.trigger_command.specs.declared.selection.UrlItem.{UrlItem}
use Rattle.serde_json.specs.Data.{array, string, no_members, member}
use Rattle.serde_json.specs.Written.{compact_text, members_text}
use Rattle.trigger_command.specs.Spec.{SpecParts}
use Rattle.trigger_status.specs.Items.{each_as, url_data}
use Rattle.trigger_status.specs.Job.{emeta_data}
use Rattle.trigger_status.proofs.ItemLemmas.{opened}
use Rattle.trigger_status.proofs.resource.add_emeta.Goals as goal

pub returns : goal.returns
unfolding emeta_data
returns c =
    let urls = member (codes "metadata.urls") (array (each_as url_data c.spec.inside.selection.metadata_urls)) no_members in
    let added = subst (λ (xs : List UrlItem). AddsOne c.add_text_member.new.out.items true c.add_url_member.new.out.items (codes "metadata.urls") (array (each_as url_data xs))) c.as_slice.ensures c.in_ok-add_url_member.ensures in
    subst (λ (s : SpecParts). c.end_object.new.out.items ≡ c.args.out.now.items ++ compact_text (emeta_data s)) c.spec.view_is (
    c.in_ok-end_object.ensures ∙ added no_members ∙ c.in_ok-add_text_member.ensures urls
    ∙ opened _ _ (members_text false (member (codes "error") (string (codes "emeta")) urls)) c.in_ok-extend_from_slice.ensures.items
    )
