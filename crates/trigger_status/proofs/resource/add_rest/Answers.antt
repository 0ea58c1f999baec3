use Rattle.std.proofs.Common.{ℕ, List, true, codes, subst, ◌∙◌}
use Rattle.serde_json.specs.Data.{string, no_members, member}
use Rattle.trigger_status.specs.Job.{last_members, status_name, trigger_data}
use Rattle.trigger_status.specs.Write.{AddsOne}
use Rattle.trigger_status.proofs.resource.add_rest.Goals as goal

pub returns : goal.returns
unfolding last_members
returns c =
    let trigger = member (codes "trigger") (trigger_data c.args.job.now.spec) no_members in
    let status = member (codes "status") (string (status_name c.args.job.now.status)) trigger in
    let named = subst (λ (t : List ℕ). AddsOne c.add_number_member.new.out.items true c.add_text_member.new.out.items (codes "status") (string t)) c.status_name.ensures c.in_ok-add_text_member.ensures in
    c.in_ok-end_object.ensures ∙ c.in_ok-add_trigger_member.ensures no_members ∙ named trigger ∙ c.in_ok-add_number_member.ensures status
