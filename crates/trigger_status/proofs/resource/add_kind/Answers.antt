use Rattle.std.proofs.Common.{ℕ, List, codes, subst, ◌∙◌}
use Rattle.serde_json.specs.Data.{string, no_members}
use Rattle.trigger_status.specs.Write.{AddsOne}
use Rattle.trigger_status.proofs.resource.add_kind.Goals as goal

pub returns : goal.returns
returns c =
    let named = subst (λ (t : List ℕ). AddsOne c.args.out.now.items c.args.later c.add_text_member.new.out.items (codes "type") (string t)) c.kind_name.ensures c.in_ok-add_text_member.ensures in
    c.in_ok-end_object.ensures ∙ named no_members
