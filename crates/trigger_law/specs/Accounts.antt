-- By which calls a trigger came to stand where it does (RFC 8007, sections 2, 4.3 and 5.1.2).
use Rattle.std.specs.Prelude.{◌≡◌, ◌≢◌, ℕ, Bool, true, false, List, [], ◌∷◌, ◌++◌, None, Some}
use Rattle.std.specs.List.{slice_get}
use Rattle.std.specs.Option.{option_map}
use Rattle.std.specs.declared.option.Option.{Option}
use Rattle.delivery_law.specs.Starts.{BecameActive, TakesBack}
use Rattle.history.specs.Event.{Entry, Event, History, Advance, Cancel, Command, FetchEnd, RefreshEnd}
use Rattle.history.specs.History.{AnsweredAt, world_of}
use Rattle.history.specs.Steps.{trigger_of}
use Rattle.history.specs.World.{Made, Trigger, World}
use Rattle.history.specs.declared.reply.Reply.TheVariants as reply
use Rattle.metadata_objects.specs.Tree.{TreeData}
use Rattle.targets.specs.declared.endpoint.Endpoint.{Endpoint}
use Rattle.targets.specs.declared.target.Target.{Target}
use Rattle.trigger_command.specs.Spec.{SpecParts}
use Rattle.trigger_command.specs.declared.selection.Selection.{Selection}
use Rattle.trigger_command.specs.declared.selection.UrlItem.{UrlItem}
use Rattle.trigger_command.specs.declared.spec.TriggerKind.TheVariants.{Preposition}
use Rattle.upstream_gate.specs.Got.{GotParts}
use Rattle.upstream_gate.specs.declared.outcome.Outcome.TheVariants as outcome
use Rattle.trigger_status.specs.declared.job.JobStatus.{JobStatus}
use Rattle.trigger_status.specs.declared.job.JobStatus.TheVariants.{Pending, Active, Complete, Cancelling, Cancelled}

-- the status of the trigger of this number, where there is one
abbrev pub status_in : World → ℕ → Option JobStatus
status_in w id = option_map (λ trigger. trigger.job.status) (trigger_of id w.controlling.triggers)

-- the moment of a call that makes a trigger, has it make a step, or cancels it
abbrev pub moment_of : Event → Option ℕ
moment_of (Command spec moment) = Some moment
moment_of (Advance id moment) = Some moment
moment_of (Cancel ids moment) = Some moment
moment_of event = None

-- a command with this specification, at this moment, made the trigger of this number
pub record WasCreated (made : Made) (h : History) (id : ℕ) (spec : SpecParts) (moment : ℕ) : Type 0 where
  pub at : ℕ
  pub pass : ℕ
  pub answered : AnsweredAt made h at (pass, Command spec moment) (reply.Created id)

-- a call at this moment gave the trigger of this number this status, which it had not before, and it has had it since
pub record WasChanged (made : Made) (h : History) (id : ℕ) (status : JobStatus) (moment : ℕ) : Type 0 where
  pub before : History
  pub entry : Entry
  pub since : History
  pub whole : h ≡ before ++ entry ∷ since
  pub then : moment_of entry.1 ≡ Some moment
  pub new : status_in (world_of made before) id ≢ Some status
  pub kept : (between later : History) → since ≡ between ++ later
      → status_in (world_of made (before ++ entry ∷ between)) id ≡ Some status

-- the trigger of this number became active at a position, as an invalidate or a purge with this specification
pub record HasStarted (made : Made) (h : History) (id : ℕ) (spec : SpecParts) : Type 0 where
  pub at : ℕ
  pub trigger : Trigger
  pub active : BecameActive made h at trigger
  pub number : trigger.job.id ≡ id
  pub same : trigger.job.spec ≡ spec

-- a step of the trigger of this number began a refresh, and what that brought was installed
pub record WasRefreshed (made : Made) (h : History) (id : ℕ) : Type 0 where
  pub refresh : ℕ
  pub at : ℕ
  pub pass : ℕ
  pub moment : ℕ
  pub begun : AnsweredAt made h at (pass, Advance id moment) (reply.Refresh refresh)
  pub ended : ℕ
  pub by : ℕ
  pub tree : Option TreeData
  pub end : ℕ
  pub generation : ℕ
  pub installed : AnsweredAt made h ended (by, RefreshEnd refresh tree end) (reply.Installed generation)

-- a step of the trigger of this number began a fetch of this target, and that brought content with status 200
pub record WasFetched (made : Made) (h : History) (id : ℕ) (target : Target) : Type 0 where
  pub fetch : ℕ
  pub at : ℕ
  pub pass : ℕ
  pub moment : ℕ
  pub plan : List Endpoint
  pub begun : AnsweredAt made h at (pass, Advance id moment) (reply.Fetch fetch plan target)
  pub ended : ℕ
  pub by : ℕ
  pub got : GotParts
  pub end : ℕ
  pub kept : Bool
  pub brought : AnsweredAt made h ended (by, FetchEnd fetch (outcome.Got got) end) (reply.Ended kept)
  pub status : got.status ≡ 200

-- the metadata that a selection names was fetched anew, where it names any, and so was each of its content URLs
pub record IsPrepared (made : Made) (h : History) (id : ℕ) (selection : Selection) : Type 0 where
  pub metadata : selection.metadata_urls ≢ [] → WasRefreshed made h id
  pub content : (place : ℕ) (item : UrlItem) → slice_get selection.content_urls place ≡ Some item
      → WasFetched made h id item.target

-- a trigger that has one of these has become active
abbrev pub has_begun : JobStatus → Bool
has_begun Active = true
has_begun Cancelling = true
has_begun Complete = true
has_begun status = false

-- A command made the trigger of this number at its creation time, and a call at its change time gave it its status. An
-- invalidate or a purge that is active, cancelling or complete became active, with the selection that it has; and a
-- preposition that is complete has had all fetched that it names.
pub record IsAccountedFor (made : Made) (h : History) (id : ℕ) (trigger : Trigger) : Type 0 where
  pub number : trigger.job.id ≡ id
  pub created : WasCreated made h id trigger.job.spec trigger.job.ctime
  pub changed : WasChanged made h id trigger.job.status trigger.job.mtime
  pub started : TakesBack trigger.job.spec.kind → has_begun trigger.job.status ≡ true
      → HasStarted made h id trigger.job.spec
  pub prepared : trigger.job.spec.kind ≡ Preposition → trigger.job.status ≡ Complete
      → IsPrepared made h id trigger.job.spec.selection

-- the status that a cancel leaves
abbrev pub cancelled_status : JobStatus → JobStatus
cancelled_status Pending = Cancelled
cancelled_status Active = Cancelling
cancelled_status status = status

-- the trigger of this number has, after this entry, the status that a cancel leaves; else it is as it was, but for its
-- change time
pub record IsCancelled (made : Made) (h : History) (entry : Entry) (id : ℕ) (status : JobStatus) : Type 0 where
  pub trigger : Trigger
  pub was : trigger_of id (world_of made h).controlling.triggers ≡ Some trigger
  pub changed : Trigger
  pub is : trigger_of id (world_of made (h ++ entry ∷ [])).controlling.triggers ≡ Some changed
  pub status_is : changed.job.status ≡ cancelled_status trigger.job.status
  pub spec_is : changed.job.spec ≡ trigger.job.spec
  pub told : status ≡ changed.job.status
