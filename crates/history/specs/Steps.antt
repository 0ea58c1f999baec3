-- What triggers do (RFC 8007, sections 2 and 4.3): their steps, starts and ends.
use Rattle.std.specs.Prelude.{ℕ, ◌+◌, ◌-◌, Bool, true, false, nat_lt, ◌==◌, ◌&&◌, ◌||◌, List, [], ◌∷◌, ◌++◌, map, None, Some, if◌then◌else◌}
use Rattle.std.specs.List.{find, filter, filter_map, list_any, slice_get}
use Rattle.std.specs.Option.{option_and_then, option_map}
use Rattle.std.specs.declared.option.Option.{Option}
use Rattle.cdni_base.specs.Key.{KeyParts}
use Rattle.metadata_objects.specs.LevelData.{Index}
use Rattle.trigger_command.specs.Selection.{hits_metadata}
use Rattle.trigger_command.specs.Spec.{SpecParts}
use Rattle.trigger_command.specs.declared.selection.UrlItem.{UrlItem}
use Rattle.trigger_command.specs.declared.spec.TriggerKind.{TriggerKind}
use Rattle.trigger_command.specs.declared.spec.TriggerKind.TheVariants.{Preposition, Invalidate, Purge}
use Rattle.trigger_status.specs.declared.job.Filter.{Filter}
use Rattle.trigger_status.specs.declared.job.Filter.TheVariants as filter_by
use Rattle.trigger_status.specs.declared.job.JobStatus.{JobStatus}
use Rattle.trigger_status.specs.declared.job.JobStatus.TheVariants.{Pending, Active, Complete, Failed, Cancelling, Cancelled}
use Rattle.history.specs.World.{Awaited, OneFetch, OneRefresh, number_of, Delivering, Installed, Start, Trigger}

-- ---- metadata that triggers make invalid

-- the installed HostIndex
abbrev pub index_of : Delivering → Option Index
index_of d = option_map (λ installed. installed.tree.index) d.tree

-- the trigger of the first start after this position that hits one of these documents
abbrev pub first_hit : List Start → ℕ → List KeyParts → Option ℕ
first_hit starts at resources = option_map (λ start. start.trigger)
    (find (λ start. nat_lt at start.at && list_any (hits_metadata start.selection) resources) starts)

-- the first trigger that was started since the installed metadata was asked for and hits one of its documents
abbrev pub invalid_of : Delivering → Option ℕ
invalid_of d = option_and_then (λ installed. first_hit d.starts installed.at installed.tree.resources) d.tree

-- ---- the next step of a trigger

-- a trigger of this number
abbrev pub is_trigger : ℕ → Trigger → Bool
is_trigger id trigger = trigger.job.id == id

abbrev pub trigger_of : ℕ → List Trigger → Option Trigger
trigger_of id triggers = find (is_trigger id) triggers

pub data Step : Type 0 where
  Ended : JobStatus → Step  -- it has ended before
  Claimed : ℕ → Step  -- this other pass made it active
  Waits : ℕ → Step  -- for this number
  Starts : Step  -- it becomes active
  Refreshes : Step  -- it fetches its metadata
  Fetches : ℕ → UrlItem → Step  -- it fetches the content URL at this place
  Ends : JobStatus → Step

-- a preposition fetches its metadata in one step, and then its content URLs, one a step
abbrev pub metadata_steps : List UrlItem → ℕ
metadata_steps [] = 0
metadata_steps (item ∷ items) = 1

-- the place of the content URL whose turn it is
abbrev pub url_place : Trigger → ℕ
url_place trigger = trigger.steps - metadata_steps trigger.job.spec.selection.metadata_urls

-- how a preposition ends: failed where an error is entered
abbrev pub ends_as : Bool → List ℕ → JobStatus
ends_as true places = Failed
ends_as false [] = Complete
ends_as false (place ∷ places) = Failed

abbrev pub url_step : Trigger → Option UrlItem → Step
url_step trigger (Some item) = Fetches (url_place trigger) item
url_step trigger None = Ends (ends_as trigger.job.emeta trigger.job.econtent)

abbrev pub active_step : TriggerKind → Trigger → Step
active_step Invalidate trigger = Ends Complete
active_step Purge trigger = Ends Complete
active_step Preposition trigger =
    if nat_lt trigger.steps (metadata_steps trigger.job.spec.selection.metadata_urls) then Refreshes
    else url_step trigger (slice_get trigger.job.spec.selection.content_urls (url_place trigger))

-- of a trigger that waits for nothing
abbrev pub free_step : JobStatus → Trigger → Step
free_step Pending trigger = Starts
free_step Active trigger = active_step trigger.job.spec.kind trigger
free_step Cancelling trigger = Ends Cancelled
free_step status trigger = Ended status

abbrev pub own_step : Trigger → Option Awaited → Step
own_step trigger (Some awaited) = Waits (number_of awaited)
own_step trigger None = free_step trigger.job.status trigger

-- of one that has not ended: another pass may have made it active
abbrev pub claimed_step : ℕ → Trigger → Option ℕ → Step
claimed_step pass trigger None = own_step trigger trigger.awaited
claimed_step pass trigger (Some claimant) =
    if claimant == pass then own_step trigger trigger.awaited else Claimed claimant

abbrev pub status_step : ℕ → Trigger → JobStatus → Step
status_step pass trigger Complete = Ended Complete
status_step pass trigger Failed = Ended Failed
status_step pass trigger Cancelled = Ended Cancelled
status_step pass trigger status = claimed_step pass trigger trigger.claimant

-- the step that this pass would make
abbrev pub step_of : ℕ → Trigger → Step
step_of pass trigger = status_step pass trigger trigger.job.status

-- ---- what a step changes

-- the trigger has this status from this moment on
abbrev pub with_status : ℕ → JobStatus → Trigger → Trigger
with_status moment status trigger = record trigger { job = record trigger.job { status = status; mtime = moment } }

abbrev pub started : ℕ → ℕ → Trigger → Trigger
started pass moment trigger = record (with_status moment Active trigger) { claimant = Some pass }

-- it waits for what its step has opened
abbrev pub waiting : Awaited → Trigger → Trigger
waiting awaited trigger = record trigger { steps = trigger.steps + 1; awaited = Some awaited }

-- this content URL could not be fetched
abbrev pub with_error : ℕ → Trigger → Trigger
with_error place trigger = record trigger { job = record trigger.job { econtent = trigger.job.econtent ++ place ∷ [] } }

abbrev pub skipped : ℕ → Trigger → Trigger
skipped place trigger = record (with_error place trigger) { steps = trigger.steps + 1 }

-- the status that it had before it ended so: an end changes nothing twice
abbrev pub ended_as : ℕ → JobStatus → JobStatus → Trigger → Trigger
ended_as moment status Complete trigger = trigger
ended_as moment status Failed trigger = trigger
ended_as moment status Cancelled trigger = trigger
ended_as moment status before trigger = with_status moment status trigger

abbrev pub ended : ℕ → JobStatus → Trigger → Trigger
ended moment status trigger = ended_as moment status trigger.job.status trigger

-- the fetch of its last step brought its content, or did not
abbrev pub fetched : Bool → Trigger → Trigger
fetched true trigger = record trigger { awaited = None }
fetched false trigger = record (with_error (url_place trigger - 1) trigger) { awaited = None }

-- the refresh of its first step installed its metadata, or did not
abbrev pub refreshed : Bool → Trigger → Trigger
refreshed true trigger = record trigger { awaited = None }
refreshed false trigger = record trigger { awaited = None; job = record trigger.job { emeta = true } }

abbrev pub awaits_fetch : ℕ → Option Awaited → Bool
awaits_fetch fetch (Some (OneFetch number)) = number == fetch
awaits_fetch fetch awaited = false

abbrev pub awaits_refresh : ℕ → Option Awaited → Bool
awaits_refresh refresh (Some (OneRefresh number)) = number == refresh
awaits_refresh refresh awaited = false

-- the first trigger of this number, changed so
abbrev pub changed : ℕ → (Trigger → Trigger) → List Trigger → List Trigger
changed id change triggers = map (λ trigger. if is_trigger id trigger then change trigger else trigger) triggers

-- ---- cancel, delete and list

abbrev pub cancelled_from : ℕ → JobStatus → Trigger → Trigger
cancelled_from moment Pending trigger = with_status moment Cancelled trigger
cancelled_from moment Active trigger = with_status moment Cancelling trigger
cancelled_from moment status trigger = trigger

-- the triggers after a cancel of these numbers (RFC 8007, section 4.3)
abbrev pub cancelled : ℕ → List ℕ → List Trigger → List Trigger
cancelled moment ids triggers = map (λ trigger. if list_any (λ id. is_trigger id trigger) ids
    then cancelled_from moment trigger.job.status trigger else trigger) triggers

-- the first of these numbers that no trigger has
abbrev pub first_unknown : List Trigger → List ℕ → Option ℕ
first_unknown triggers [] = None
first_unknown triggers (id ∷ ids) =
    if list_any (is_trigger id) triggers then first_unknown triggers ids else Some id

-- the statuses of these triggers
abbrev pub statuses_of : List Trigger → List ℕ → List JobStatus
statuses_of triggers ids = filter_map (λ id. option_map (λ trigger. trigger.job.status) (trigger_of id triggers)) ids

-- the filter lists triggers of this status (RFC 8007, section 4.2.1)
abbrev pub is_listed : Filter → JobStatus → Bool
is_listed filter_by.All status = true
is_listed filter_by.Pending Pending = true
is_listed filter_by.Active Active = true
is_listed filter_by.Active Cancelling = true
is_listed filter_by.Complete Complete = true
is_listed filter_by.Failed Failed = true
is_listed filter_by.Failed Cancelled = true
is_listed filter status = false

-- the numbers of those that it lists
abbrev pub listed : Filter → List Trigger → List ℕ
listed by triggers = map (λ trigger. trigger.job.id) (filter (λ trigger. is_listed by trigger.job.status) triggers)
