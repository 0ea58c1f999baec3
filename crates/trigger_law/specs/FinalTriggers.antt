-- Triggers that have their last status (RFC 8007, section 5.2.3).
use Rattle.std.specs.Prelude.{◌≡◌, ℕ, Bool, true, false, List, ◌==◌, Some}
use Rattle.history.specs.Event.{Entry, Delete}
use Rattle.history.specs.Steps.{trigger_of}
use Rattle.history.specs.World.{Trigger, World}
use Rattle.trigger_status.specs.declared.job.JobStatus.{JobStatus}
use Rattle.trigger_status.specs.declared.job.JobStatus.TheVariants.{Complete, Failed, Cancelled}

-- complete, failed or cancelled
abbrev pub is_final : JobStatus → Bool
is_final Complete = true
is_final Failed = true
is_final Cancelled = true
is_final status = false

-- the trigger of this number is among these, with its last status
abbrev pub IsFinalAmong : ℕ → List Trigger → Type 0
IsFinalAmong id triggers = (trigger : Trigger) × (trigger_of id triggers ≡ Some trigger) × (is_final trigger.job.status ≡ true)

-- in what a history leaves
abbrev pub IsFinalIn : World → ℕ → Type 0
IsFinalIn w id = IsFinalAmong id w.controlling.triggers

-- the entry deletes it
abbrev pub deletes : ℕ → Entry → Bool
deletes id (pass, Delete other) = other == id
deletes id entry = false
