use Rattle.std.proofs.Common.{List, false, codes, subst, ◌≡◌, ◌++◌, ◌∙◌}
use Rattle.trigger_status.specs.Write.{AddsOne}
use Rattle.trigger_command.specs.declared.selection.UrlItem.{UrlItem}
use Rattle.serde_json.specs.Data.{array, string, no_members, member}
use Rattle.serde_json.specs.Written.{compact_text, members_text}
use Rattle.trigger_command.specs.Spec.{SpecParts}
use Rattle.trigger_status.specs.Items.{each_as, url_at}
use Rattle.trigger_status.specs.Job.{econtent_data}
use Rattle.trigger_status.proofs.ItemLemmas.{opened}
use Rattle.trigger_status.proofs.resource.add_econtent.Goals as goal

pub returns : goal.returns
unfolding econtent_data
returns c =
    let error = member (codes "error") (string (codes "econtent")) no_members in
    let added = subst (λ (xs : List UrlItem). AddsOne c.extend_from_slice.new.self.items false c.add_place_member.new.out.items (codes "content.urls") (array (each_as (url_at xs) c.args.places.now))) c.as_slice-urls.ensures c.in_ok-add_place_member.ensures in
    subst (λ (s : SpecParts). c.end_object.new.out.items ≡ c.args.out.now.items ++ compact_text (econtent_data s c.args.places.now)) c.spec.view_is (
    c.in_ok-end_object.ensures ∙ c.in_ok-add_text_member.ensures no_members ∙ added error
    ∙ opened _ _ (members_text false (member (codes "content.urls") (array (each_as (url_at c.spec.inside.selection.content_urls) c.args.places.now)) error)) c.in_ok-extend_from_slice.ensures.items
    )
