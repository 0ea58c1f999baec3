-- One trigger: its next step, what a step changes, and the errors that are entered.
use Rattle.std.specs.Prelude.{◌≡◌, ℕ, ◌+◌, ◌<◌, ◌≤◌, Bool, true, false, nat_lt, ◌==◌, ◌&&◌, length, None, Some, if◌then◌else◌}
use Rattle.std.specs.Option.{option_map}
use Rattle.std.specs.declared.option.Option.{Option}
use Rattle.trigger_command.specs.declared.spec.TheConstants.{SELECTION_MAX}
use Rattle.trigger_status.specs.declared.job.Job.{Job}
use Rattle.trigger_status.specs.declared.job.JobStatus.{JobStatus}
use Rattle.trigger_status.specs.declared.job.JobStatus.TheVariants as status
use Rattle.history.specs.Steps as history
use Rattle.history.specs.World.{Awaited, OneFetch, OneRefresh, Trigger}
use Rattle.trigger_table.specs.declared.state.LastStep.{LastStep}
use Rattle.trigger_table.specs.declared.state.LastStep.TheVariants as last
use Rattle.trigger_table.specs.declared.state.Opened.{Opened}
use Rattle.trigger_table.specs.declared.state.Opened.TheVariants as opened
use Rattle.trigger_table.specs.declared.step.Step.{Step}
use Rattle.trigger_table.specs.declared.step.Step.TheVariants as step

-- ---- what a trigger is seen as

abbrev pub awaited_of : Opened → Awaited
awaited_of (opened.Fetch number) = OneFetch number
awaited_of (opened.Refresh number) = OneRefresh number

abbrev pub state_of : Job → Option ℕ → ℕ → Option Opened → Trigger
state_of job claimant steps opened = record {
  job = job;
  claimant = claimant;
  steps = steps;
  awaited = option_map awaited_of opened;
}

-- how many errors may come of what is open
abbrev pub open_errors : Option Awaited → ℕ
open_errors (Some (OneFetch number)) = 1
open_errors awaited = 0

-- how many steps fetch something
abbrev pub step_count : Trigger → ℕ
step_count t = history.metadata_steps t.job.spec.selection.metadata_urls + length t.job.spec.selection.content_urls

-- no more errors than content URLs that were tried, and no more of these than there are
pub record IsBounded (t : Trigger) : Type 0 where
  pub errors : length t.job.econtent + open_errors t.awaited ≤ history.url_place t
  pub tried : t.steps ≤ step_count t
  pub few : length t.job.spec.selection.content_urls ≤ SELECTION_MAX

-- ---- its next step

-- the step as an answer
abbrev pub seen : history.Step → Step
seen (history.Ended status) = step.Final status
seen (history.Claimed claimant) = step.Claimed claimant
seen (history.Waits number) = step.StepOpen number
seen history.Starts = step.Start
seen history.Refreshes = step.Refresh
seen (history.Fetches place item) = step.Url place
seen (history.Ends status) = step.End status

abbrev pub next_step : ℕ → Option Trigger → Step
next_step pass None = step.Unknown
next_step pass (Some trigger) = seen (history.step_of pass trigger)

-- in how many steps the metadata is fetched
abbrev pub metadata_count : Trigger → ℕ
metadata_count t = history.metadata_steps t.job.spec.selection.metadata_urls

-- a step that has its turn: the trigger waits for nothing, and has not made all; what has ended does not end again
abbrev pub HasTurn : Step → Trigger → Type 0
HasTurn step.Refresh t = (t.awaited ≡ None) × (t.steps < metadata_count t)
HasTurn (step.Url place) t =
    (t.awaited ≡ None) × (place ≡ history.url_place t) × (metadata_count t ≤ t.steps) × (t.steps < step_count t)
HasTurn (step.Final status) t = (moment : ℕ) → history.ended moment status t ≡ t
HasTurn other t = Unit {0}

-- ---- what changes

-- one step more
abbrev pub stepped : Trigger → Trigger
stepped trigger = record trigger { steps = trigger.steps + 1 }

-- what a step itself changes
abbrev pub made : ℕ → ℕ → Step → Trigger → Trigger
made pass moment step.Start trigger = history.started pass moment trigger
made pass moment step.Refresh trigger = stepped trigger
made pass moment (step.Url place) trigger = stepped trigger
made pass moment (step.End status) trigger = history.ended moment status trigger
made pass moment other trigger = trigger

-- the next step of this pass is done
abbrev pub step_made : ℕ → ℕ → Trigger → Trigger
step_made pass moment trigger = made pass moment (seen (history.step_of pass trigger)) trigger

-- fewer errors are entered than content URLs were tried
abbrev pub has_room : Trigger → Bool
has_room trigger = nat_lt (length trigger.job.econtent) (history.url_place trigger)

-- the last step that was made fetched the metadata
abbrev pub is_first : Trigger → Bool
is_first trigger = nat_lt 0 trigger.steps && history.url_place trigger == 0

-- the last step, as far as it may still fail
abbrev pub last_of : Trigger → LastStep
last_of trigger = if has_room trigger then last.Url else if is_first trigger then last.Metadata else last.Other

abbrev pub opened_at : ℕ → LastStep → Trigger → Trigger
opened_at number last.Metadata trigger = record trigger { awaited = Some (OneRefresh number) }
opened_at number last.Url trigger = record trigger { awaited = Some (OneFetch number) }
opened_at number last.Other trigger = trigger

-- the last step has opened this number: a refresh where it fetched the metadata, else a fetch
abbrev pub opened_by : ℕ → Trigger → Trigger
opened_by number trigger = opened_at number (last_of trigger) trigger

abbrev pub entered_at : LastStep → Trigger → Trigger
entered_at last.Metadata trigger = history.refreshed false trigger
entered_at last.Url trigger = history.fetched false trigger
entered_at last.Other trigger = trigger

abbrev pub ended_at : Bool → Option Awaited → Trigger → Trigger
ended_at good (Some (OneFetch number)) trigger = history.fetched good trigger
ended_at good (Some (OneRefresh number)) trigger = history.refreshed good trigger
ended_at true None trigger = trigger
ended_at false None trigger = entered_at (last_of trigger) trigger

-- what the last step opened has ended; where it was not good, or the step was skipped, an error is entered
abbrev pub step_ended : Bool → Trigger → Trigger
step_ended good trigger = ended_at good trigger.awaited trigger

-- after this step, what it opens and what it skips are as in a history
abbrev pub GoesOn : Step → Trigger → Trigger → Type 0
GoesOn step.Refresh old new = (number : ℕ) → opened_by number new ≡ history.waiting (OneRefresh number) old
GoesOn (step.Url place) old new = ((number : ℕ) → opened_by number new ≡ history.waiting (OneFetch number) old)
    × (step_ended false new ≡ history.skipped place old)
GoesOn other old new = Unit {0}

-- a cancel
abbrev pub cancel_of : ℕ → Trigger → Trigger
cancel_of moment trigger = history.cancelled_from moment trigger.job.status trigger

-- the status after it
abbrev pub cancelled_status : JobStatus → JobStatus
cancelled_status status.Pending = status.Cancelled
cancelled_status status.Active = status.Cancelling
cancelled_status other = other

-- the end of a fetch that it may wait for
abbrev pub fetch_ended_in : ℕ → Bool → Trigger → Trigger
fetch_ended_in fetch good trigger = if history.awaits_fetch fetch trigger.awaited then history.fetched good trigger else trigger

-- the end of a refresh that it may wait for
abbrev pub refresh_ended_in : ℕ → Bool → Trigger → Trigger
refresh_ended_in refresh good trigger =
    if history.awaits_refresh refresh trigger.awaited then history.refreshed good trigger else trigger
