use Rattle.std.proofs.Common.{ℕ, List, false, codes, subst, ◌∙◌}
use Rattle.serde_json.specs.Data.{member, string}
use Rattle.trigger_status.specs.Write.{AddsOne}
use Rattle.trigger_status.specs.Collection.{all_members, link, some_members}
use Rattle.trigger_status.proofs.collection.add_all.Goals as goal

pub returns : goal.returns
unfolding all_members
returns c =
    let control = c.args.control.now in
    let triggers = some_members c.args.ids.now control in
    let pending = member (codes "coll-pending") (link control (codes "/triggers/pending")) triggers in
    let failed = member (codes "coll-failed") (link control (codes "/triggers/failed")) pending in
    let complete = member (codes "coll-complete") (link control (codes "/triggers/complete")) failed in
    let every = member (codes "coll-all") (link control (codes "/triggers")) complete in
    let active = member (codes "coll-active") (link control (codes "/triggers/active")) every in
    let id = subst (λ (t : List ℕ). AddsOne c.args.out.now.items false c.add_text_member.new.out.items (codes "cdn-id") (string t)) c.bytes.ensures c.in_ok-add_text_member.ensures in
    c.in_ok-add_triggers.ensures ∙ c.in_ok-add_link-5.ensures triggers ∙ c.in_ok-add_link-4.ensures pending
    ∙ c.in_ok-add_link-3.ensures failed ∙ c.in_ok-add_link-2.ensures complete ∙ c.in_ok-add_link.ensures every ∙ id active
