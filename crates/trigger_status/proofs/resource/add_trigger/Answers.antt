use Rattle.std.proofs.Common.{ℕ, List, false, codes, subst, ◌≡◌, ◌++◌, ◌∙◌}
use Rattle.trigger_status.specs.Write.{AddsMember}
use Rattle.trigger_command.specs.declared.selection.PatternItem.{PatternItem}
use Rattle.trigger_command.specs.declared.selection.UrlItem.{UrlItem}
use Rattle.serde_json.specs.Data.{string, no_members, member}
use Rattle.serde_json.specs.Written.{compact_text, members_text}
use Rattle.trigger_command.specs.Spec.{SpecParts}
use Rattle.trigger_status.specs.Items.{each_as, pattern_data, url_data, with_list}
use Rattle.trigger_status.specs.Job.{kind_name, trigger_data}
use Rattle.trigger_status.proofs.ItemLemmas.{opened}
use Rattle.trigger_status.proofs.resource.add_trigger.Goals as goal

pub returns : goal.returns
unfolding trigger_data
returns c =
    let selection = c.spec.inside.selection in
    let kind = member (codes "type") (string (kind_name c.spec.inside.kind)) no_members in
    let metadata_urls = with_list (codes "metadata.urls") (each_as url_data selection.metadata_urls) kind in
    let metadata_patterns = with_list (codes "metadata.patterns") (each_as pattern_data selection.metadata_patterns) metadata_urls in
    let urls = with_list (codes "content.urls") (each_as url_data selection.content_urls) metadata_patterns in
    let patterns = with_list (codes "content.patterns") (each_as pattern_data selection.content_patterns) urls in
    let ccids = with_list (codes "content.ccid") (each_as string selection.ccids) patterns in
    let h1 = subst (λ (xs : List (List ℕ)). AddsMember c.extend_from_slice.new.self.items false c.add_text_list.new.out.items (codes "content.ccid") (each_as string xs) c.in_ok-ccids.ccids) c.as_slice.ensures c.in_ok-ccids.ensures in
    let h2 = subst (λ (xs : List PatternItem). AddsMember c.add_text_list.new.out.items c.in_ok-ccids.ccids c.add_pattern_list.new.out.items (codes "content.patterns") (each_as pattern_data xs) c.in_ok-patterns.patterns) c.as_slice-2.ensures c.in_ok-patterns.ensures in
    let h3 = subst (λ (xs : List UrlItem). AddsMember c.add_pattern_list.new.out.items c.in_ok-patterns.patterns c.add_url_list.new.out.items (codes "content.urls") (each_as url_data xs) c.in_ok-urls.urls) c.as_slice-3.ensures c.in_ok-urls.ensures in
    let h4 = subst (λ (xs : List PatternItem). AddsMember c.add_url_list.new.out.items c.in_ok-urls.urls c.add_pattern_list-2.new.out.items (codes "metadata.patterns") (each_as pattern_data xs) c.in_ok-metadata_patterns.metadata_patterns) c.as_slice-4.ensures c.in_ok-metadata_patterns.ensures in
    let h5 = subst (λ (xs : List UrlItem). AddsMember c.add_pattern_list-2.new.out.items c.in_ok-metadata_patterns.metadata_patterns c.add_url_list-2.new.out.items (codes "metadata.urls") (each_as url_data xs) c.in_ok-later.later) c.as_slice-5.ensures c.in_ok-later.ensures in
    subst (λ (s : SpecParts). c.add_kind.new.out.items ≡ c.args.out.now.items ++ compact_text (trigger_data s)) c.spec.view_is (
    c.in_ok-add_kind.ensures ∙ h5 kind ∙ h4 metadata_urls ∙ h3 metadata_patterns ∙ h2 urls ∙ h1 patterns
    ∙ opened _ _ (members_text false ccids) c.in_ok-extend_from_slice.ensures.items
    )
