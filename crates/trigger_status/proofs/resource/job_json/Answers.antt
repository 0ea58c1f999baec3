use Rattle.std.proofs.Common.{◌∙◌}
use Rattle.trigger_status.specs.Job.{error_items, job_data, last_members}
use Rattle.trigger_status.specs.Items.{with_list}
use Rattle.std.proofs.Common.{codes}
use Rattle.trigger_status.proofs.resource.job_json.Goals as goal

pub returns : goal.returns
unfolding job_data
returns c =
    let last = last_members c.args.job.now in
    let errors = with_list (codes "errors") (error_items c.args.job.now.emeta c.args.job.now.spec c.args.job.now.econtent) last in
    let number = rw c.in_ok-out.ensures.items at (c.in_ok-add_number_member.ensures errors) in
    c.from_vec.ensures ∙ c.in_ok-add_rest.ensures ∙ c.in_ok-add_errors.ensures last ∙ number
