use Rattle.std.proofs.Common.{ℕ, List, true, false, codes, subst, ◌∙◌}
use Rattle.serde_json.specs.Data.{boolean, string, no_members, member}
use Rattle.serde_json.specs.Written.{comma_if, members_text}
use Rattle.trigger_status.specs.Write.{AddsOne}
use Rattle.trigger_status.proofs.ItemLemmas.{opened_behind}
use Rattle.trigger_status.proofs.items.add_pattern.Goals as goal

pub returns : goal.returns
returns c =
    let text = member (codes "pattern") (string c.args.pattern.now.text) no_members in
    let query = member (codes "match-query-string") (boolean c.args.pattern.now.query) text in
    let case = member (codes "case-sensitive") (boolean c.args.pattern.now.case) query in
    let last = subst (λ (t : List ℕ). AddsOne c.add_flag_member-2.new.out.items true c.add_text_member.new.out.items (codes "pattern") (string t)) c.bytes.ensures c.in_ok-add_text_member.ensures in
    c.in_ok-end_object.ensures ∙ last no_members ∙ c.in_ok-add_flag_member-2.ensures text
    ∙ c.in_ok-add_flag_member.ensures query ∙ opened_behind _ _ _ (comma_if c.args.later) (members_text false case) c.in_ok-add_comma.ensures c.in_ok-extend_from_slice.ensures.items
