use Rattle.std.proofs.Common.{codes, ◌∙◌}
use Rattle.serde_json.specs.Data.{no_members, member}
use Rattle.trigger_status.specs.Job.{trigger_data}
use Rattle.trigger_status.proofs.command.command_json.Goals as goal

pub returns : goal.returns
returns c =
    let trigger = member (codes "trigger") (trigger_data c.args.spec.now) no_members in
    let path = rw (c.in_ok-out.ensures.items, c.as_slice.ensures) at (c.in_ok-add_path.ensures trigger) in
    c.from_vec.ensures ∙ c.in_ok-end_object.ensures ∙ c.in_ok-add_trigger_member.ensures no_members ∙ path
