-- What the next step of a trigger is answered, by the step as the table of triggers gives it.
use Rattle.std.proofs.Common.{◌≡◌, ℕ, ◌+◌, ◌==◌, true, false, cond, refl, sym, ap, ◌∙◌, nat_lt, None, Some, Option}
use Rattle.std.specs.List.{slice_get}
use Rattle.std.specs.Option.{option_map, option_map_or}
use Rattle.history.specs.Reply.{advance_reply, opening, step_reply, url_reply}
use Rattle.history.specs.Steps as steps
use Rattle.history.specs.Steps.{Ended, Claimed, Waits, Starts, Refreshes, Fetches, Ends, active_step, claimed_step, ends_as, free_step, metadata_steps, own_step, status_step, step_of, url_place, url_step}
use Rattle.history.specs.World.{Awaited, Trigger, World}
use Rattle.history.specs.declared.reply.Reply.{Reply}
use Rattle.history.specs.declared.reply.Reply.TheVariants as reply
use Rattle.node_core.specs.Triggering.{url_of}
use Rattle.trigger_command.specs.declared.selection.UrlItem.{UrlItem}
use Rattle.trigger_command.specs.declared.spec.TriggerKind.{TriggerKind}
use Rattle.trigger_command.specs.declared.spec.TriggerKind.TheVariants.{Preposition, Invalidate, Purge}
use Rattle.trigger_status.specs.declared.job.Job.{Job}
use Rattle.trigger_status.specs.declared.job.JobStatus.{JobStatus}
use Rattle.trigger_status.specs.declared.job.JobStatus.TheVariants as status
use Rattle.trigger_table.specs.State.{next_step, seen}
use Rattle.trigger_table.specs.declared.step.Step.{Step}
use Rattle.trigger_table.specs.declared.step.Step.TheVariants as step

-- ---- the content URL of a step is the one at its place

abbrev IsItem : Trigger → steps.Step → Type 0
IsItem t (Fetches place item) = slice_get t.job.spec.selection.content_urls place ≡ Some item
IsItem t (Ended status) = Unit {0}
IsItem t (Claimed pass) = Unit {0}
IsItem t (Waits number) = Unit {0}
IsItem t Starts = Unit {0}
IsItem t Refreshes = Unit {0}
IsItem t (Ends status) = Unit {0}

url_item : (t : Trigger) (found : Option UrlItem) → slice_get t.job.spec.selection.content_urls (url_place t) ≡ found → IsItem t (url_step t found)
url_item t None is = tt
url_item t (Some item) is = is

active_item : (t : Trigger) (kind : TriggerKind) → IsItem t (active_step kind t)
active_item t Invalidate = tt
active_item t Purge = tt
active_item t Preposition =
    elim (nat_lt t.steps (metadata_steps t.job.spec.selection.metadata_urls)) as (λ b. IsItem t (cond b Refreshes (url_step t (slice_get t.job.spec.selection.content_urls (url_place t))))) [
      | true ↦ tt
      | false ↦ url_item t (slice_get t.job.spec.selection.content_urls (url_place t)) refl
    ]

free_item : (t : Trigger) (s : JobStatus) → IsItem t (free_step s t)
free_item t status.Pending = tt
free_item t status.Active = active_item t t.job.spec.kind
free_item t status.Complete = tt
free_item t status.Failed = tt
free_item t status.Cancelling = tt
free_item t status.Cancelled = tt

own_item : (t : Trigger) (awaited : Option Awaited) → IsItem t (own_step t awaited)
own_item t None = free_item t t.job.status
own_item t (Some awaited) = tt

claimed_item : (pass : ℕ) (t : Trigger) (claimant : Option ℕ) → IsItem t (claimed_step pass t claimant)
claimed_item pass t None = own_item t t.awaited
claimed_item pass t (Some claimant) =
    elim (claimant == pass) as (λ b. IsItem t (cond b (own_step t t.awaited) (Claimed claimant))) [
      | true ↦ own_item t t.awaited
      | false ↦ tt
    ]

status_item : (pass : ℕ) (t : Trigger) (s : JobStatus) → IsItem t (status_step pass t s)
status_item pass t status.Pending = claimed_item pass t t.claimant
status_item pass t status.Active = claimed_item pass t t.claimant
status_item pass t status.Complete = tt
status_item pass t status.Failed = tt
status_item pass t status.Cancelling = claimed_item pass t t.claimant
status_item pass t status.Cancelled = tt

step_item : (pass : ℕ) (t : Trigger) → IsItem t (step_of pass t)
step_item pass t = status_item pass t t.job.status

-- ---- the answer

abbrev job_of : Option Trigger → Option Job
job_of found = option_map (λ (t : Trigger). t.job) found

abbrev pub step_answer : World → ℕ → Option Job → Step → Reply
step_answer w id job step.Unknown = reply.Unknown id
step_answer w id job (step.Final status) = reply.Final status
step_answer w id job (step.Claimed claimant) = reply.Claimed claimant
step_answer w id job (step.StepOpen number) = reply.StepOpen number
step_answer w id job step.Start = opening w reply.Started
step_answer w id job step.Refresh = opening w (reply.Refresh (w.counts.refreshed + 1))
step_answer w id job (step.Url place) = option_map_or (url_reply w place) (url_of place job) (reply.Unknown id)
step_answer w id job (step.End status) = reply.Final status

by_step : (w : World) (id : ℕ) (t : Trigger) (s : steps.Step) → IsItem t s → step_reply w s ≡ step_answer w id (Some t.job) (seen s)
by_step w id t (Ended status) is = refl
by_step w id t (Claimed pass) is = refl
by_step w id t (Waits number) is = refl
by_step w id t Starts is = refl
by_step w id t Refreshes is = refl
by_step w id t (Fetches place item) is = sym (ap (λ found. option_map_or (url_reply w place) (option_map (λ (i : UrlItem). i.target) found) (reply.Unknown id)) is)
by_step w id t (Ends status) is = refl

pub answers_step : (w : World) (pass id : ℕ) (found : Option Trigger) → advance_reply w pass id found ≡ step_answer w id (option_map (λ (t : Trigger). t.job) found) (next_step pass found)
answers_step w pass id None = refl
answers_step w pass id (Some t) = by_step w id t (step_of pass t) (step_item pass t)

-- a URL that has its turn is there
there_by : (t : Trigger) (s : steps.Step) → IsItem t s → (place : ℕ) → seen s ≡ step.Url place → url_of place (Some t.job) ≡ None → ⊥
there_by t (Ended status) item place is none = absurd (cc)
there_by t (Claimed pass) item place is none = absurd (cc)
there_by t (Waits number) item place is none = absurd (cc)
there_by t Starts item place is none = absurd (cc)
there_by t Refreshes item place is none = absurd (cc)
there_by t (Fetches at found) item place is none = some_there found (same_place at place is) item none
  where
    place_of : Step → ℕ
    place_of (step.Url at) = at
    place_of other = 0

    same_place : (at place : ℕ) → step.Url at ≡ step.Url place → at ≡ place
    same_place at place is = ap place_of is

    some_there : (found : UrlItem) → at ≡ place → slice_get t.job.spec.selection.content_urls at ≡ Some found → url_of place (Some t.job) ≡ None → ⊥
    some_there found is item none =
        let some : url_of place (Some t.job) ≡ Some found.target = ap (option_map (λ (i : UrlItem). i.target)) (ap (slice_get t.job.spec.selection.content_urls) (sym is) ∙ item) in
        absurd (cc)
there_by t (Ends status) item place is none = absurd (cc)

pub url_is_there : (pass : ℕ) (found : Option Trigger) (place : ℕ) → next_step pass found ≡ step.Url place → url_of place (option_map (λ (t : Trigger). t.job) found) ≡ None → ⊥
url_is_there pass None place is none = absurd (cc)
url_is_there pass (Some t) place is none = there_by t (step_of pass t) (step_item pass t) place is none
