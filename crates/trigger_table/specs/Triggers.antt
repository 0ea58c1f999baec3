-- The triggers that are not deleted, as the calls of the table see them.
use Rattle.std.specs.Prelude.{◌≡◌, ℕ, ◌+◌, ◌<◌, ◌≤◌, Bool, false, not, ◌==◌, List, [], ◌∷◌, ◌++◌, filter, map, length, None, Some, if◌then◌else◌, slice_set, slice_index_or, Result, Ok, Err}
use Rattle.std.specs.List.{filter_map, remove}
use Rattle.std.specs.Option.{option_map}
use Rattle.std.specs.declared.option.Option.{Option}
use Rattle.trigger_command.specs.Spec.{SpecParts}
use Rattle.trigger_status.specs.declared.job.JobStatus.{JobStatus}
use Rattle.history.specs.After.{commanded}
use Rattle.history.specs.Steps.{cancelled, changed, ended, first_unknown, is_trigger, skipped, statuses_of, trigger_of, waiting}
use Rattle.history.specs.World.{OneFetch, OneRefresh, Trigger}
use Rattle.trigger_table.specs.State.{cancelled_status, made, next_step, opened_by, step_ended}
use Rattle.trigger_table.specs.declared.step.Step.{Step}
use Rattle.trigger_table.specs.declared.step.Step.TheVariants as step

-- the triggers, in order of their numbers; how many there may be; and how many were made
pub record TriggersView : Type 0 where
  pub triggers : List Trigger
  pub most : ℕ
  pub created : ℕ

abbrev pub with_triggers : TriggersView → List Trigger → TriggersView
with_triggers v triggers = record v { triggers = triggers }

-- ---- a command

abbrev pub is_full : TriggersView → Bool
is_full v = length v.triggers == v.most

-- the next number, unless the table is full
abbrev pub command_reply : TriggersView → Option ℕ
command_reply v = if is_full v then None else Some (v.created + 1)

abbrev pub command_after : TriggersView → SpecParts → ℕ → TriggersView
command_after v spec moment = if is_full v then v else record v {
  triggers = v.triggers ++ commanded (v.created + 1) spec moment ∷ [];
  created = v.created + 1;
}

-- ---- a delete

-- all but that of this number
abbrev pub without : ℕ → List Trigger → List Trigger
without id triggers = filter (λ trigger. not (is_trigger id trigger)) triggers

-- ---- a cancel

-- the statuses after it, or the first number that no trigger has
abbrev pub cancel_reply_by : List Trigger → List ℕ → ℕ → Option ℕ → Result (List JobStatus) ℕ
cancel_reply_by triggers ids moment None = Ok (statuses_of (cancelled moment ids triggers) ids)
cancel_reply_by triggers ids moment (Some unknown) = Err unknown

abbrev pub cancel_reply : List Trigger → List ℕ → ℕ → Result (List JobStatus) ℕ
cancel_reply triggers ids moment = cancel_reply_by triggers ids moment (first_unknown triggers ids)

abbrev pub cancel_after_by : List Trigger → List ℕ → ℕ → Option ℕ → List Trigger
cancel_after_by triggers ids moment None = cancelled moment ids triggers
cancel_after_by triggers ids moment (Some unknown) = triggers

-- nothing changes where a number is unknown
abbrev pub cancel_after : List Trigger → List ℕ → ℕ → List Trigger
cancel_after triggers ids moment = cancel_after_by triggers ids moment (first_unknown triggers ids)

-- the statuses that a cancel gives these triggers
abbrev pub cancelled_statuses : List Trigger → List ℕ → List JobStatus
cancelled_statuses triggers ids =
    filter_map (λ id. option_map (λ trigger. cancelled_status trigger.job.status) (trigger_of id triggers)) ids

-- ---- steps

-- where it has ended before, it does not end again
abbrev pub StaysEnded : ℕ → Step → List Trigger → Type 0
StaysEnded id (step.Final status) triggers = (moment : ℕ) → changed id (ended moment status) triggers ≡ triggers
StaysEnded id other triggers = Unit {0}

-- the next step of this pass is done
abbrev pub step_after : ℕ → ℕ → ℕ → List Trigger → List Trigger
step_after id pass moment triggers = changed id (made pass moment (next_step pass (trigger_of id triggers))) triggers

-- after this step, what it opens and what it skips are as in a history
abbrev pub TriggersGoOn : ℕ → Step → List Trigger → List Trigger → Type 0
TriggersGoOn id step.Refresh old new =
    (number : ℕ) → changed id (opened_by number) new ≡ changed id (waiting (OneRefresh number)) old
TriggersGoOn id (step.Url place) old new =
    ((number : ℕ) → changed id (opened_by number) new ≡ changed id (waiting (OneFetch number)) old)
    × (changed id (step_ended false) new ≡ changed id (skipped place) old)
TriggersGoOn id other old new = Unit {0}

-- ---- where a trigger is

abbrev pub ids_of : List Trigger → List ℕ
ids_of triggers = map (λ trigger. trigger.job.id) triggers

-- the numbers rise, from above the first to at most the second
abbrev pub IsRising : ℕ → ℕ → List ℕ → Type 0
IsRising low high [] = low ≤ high
IsRising low high (id ∷ ids) = (low < id) × IsRising id high ids

-- the trigger of this number is at this place, and no other has it
pub record IsAt (id : ℕ) (triggers : List Trigger) (place : ℕ) : Type 0 where
  pub in_range : place < length triggers
  pub number : (d : Trigger) → (slice_index_or triggers place d).job.id ≡ id
  pub found : (d : Trigger) → trigger_of id triggers ≡ Some (slice_index_or triggers place d)
  pub change : (f : Trigger → Trigger) (d : Trigger)
      → changed id f triggers ≡ slice_set triggers place (f (slice_index_or triggers place d))
  pub rest : without id triggers ≡ remove triggers place

-- no trigger has this number
pub record IsAbsent (id : ℕ) (triggers : List Trigger) : Type 0 where
  pub found : trigger_of id triggers ≡ None
  pub change : (f : Trigger → Trigger) → changed id f triggers ≡ triggers
  pub rest : without id triggers ≡ triggers
