-- The resource of a new trigger.
use Rattle.std.proofs.Common.{◌≡◌, ℕ, List, refl, sym, ◌∙◌}
use Rattle.history.specs.After.{commanded}
use Rattle.trigger_command.specs.Spec.{SpecParts}
use Rattle.trigger_status.specs.Job.{job_data, job_text, last_members}

-- the resource does not show the number of its trigger
pub same_resource : (text : List ℕ) (id other : ℕ) (spec : SpecParts) (moment : ℕ) → text ≡ job_text (commanded id spec moment).job → text ≡ job_text (commanded other spec moment).job
unfolding job_data last_members
same_resource text id other spec moment is = is
