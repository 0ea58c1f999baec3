-- The command that is to be passed on.
use Rattle.std.specs.Prelude.{◌≡◌, ◌≢◌, ℕ, ◌+◌, ◌<◌, ◌≤◌, List, [], ◌∷◌, ◌++◌, length, None, Some, Ok, Err, codes, nat_lt}
use Rattle.std.specs.Prelude.{if◌then◌else◌, IfOk}
use Rattle.std.specs.Io.KnownBytes.{Consumes, IsAtEnd}
use Rattle.std.specs.declared.option.Option.{Option}
use Rattle.std.specs.declared.result.Result.{Result}
use Rattle.cdni_base.specs.declared.provider.ProviderId.{ProviderId}
use Rattle.edge_base.specs.Causes.{Rose}
use Rattle.trigger_cascade.specs.declared.task.Task.{Task}
use Rattle.trigger_cascade.specs.declared.task.Task.TheVariants.{PassOn, Stop}
use Rattle.trigger_cascade.specs.declared.task.TaskRead.{TaskRead}
use Rattle.trigger_cascade.specs.declared.task.TaskRead.TheVariants as task_read
use Rattle.trigger_command.specs.Fault.{refusal_text}
use Rattle.trigger_command.specs.Reading.{command_of, Judged}
use Rattle.trigger_command.specs.declared.command.Act.{Act}
use Rattle.trigger_command.specs.declared.command.Act.TheVariants as act
use Rattle.trigger_command.specs.declared.command.Command.{Command}
use Rattle.trigger_command.specs.declared.fault.CommandFault.{CommandFault}
use Rattle.trigger_command.specs.declared.fault.CommandFault.TheVariants as fault

-- a note has one line
abbrev pub note_line : List ℕ → List ℕ
note_line line = line ++ 10 ∷ []

-- the control host for which a command is read
abbrev pub control_host : List ℕ
control_host = codes "control.example"

-- a trigger is passed on, and a cancel is not
abbrev pub task_of_act : List ProviderId → Act → Task
task_of_act path (act.Trigger spec) = PassOn path spec
task_of_act path (act.Cancel ids) = Stop (note_line (codes "cancel"))

abbrev pub task_of : Judged Command → Task
task_of (Ok command) = task_of_act command.path command.act
task_of (Err wrong) = Stop (note_line (refusal_text wrong))

-- what a text is to the CDN of this id: nothing above 1,048,576 bytes, and no text that is refused, is passed on
unfoldable pub task_in : ProviderId → List ℕ → Task
task_in own text = if nat_lt 1048576 (length text) then Stop (note_line (codes "too-long"))
    else task_of (command_of own control_host text)

-- where the input tells what it has, that is the text
abbrev pub Tells : Option (List ℕ) → List ℕ → Type 0
Tells None text = Unit {0}
Tells (Some told) text = text ≡ told

-- the input is this task; a trigger command is read to its end
abbrev pub IsRead : ProviderId → Option (List ℕ) → Option (List ℕ) → Task → Type 0
IsRead own before after (PassOn path spec) = (text : List ℕ) × Tells before text
    × (task_in own text ≡ PassOn path spec) × Consumes before after text × IsAtEnd after
IsRead own before after (Stop note) = (text : List ℕ) × Tells before text × (task_in own text ≡ Stop note)

abbrev pub ReadsTask : ProviderId → Option (List ℕ) → Option (List ℕ) → TaskRead → Type 0
ReadsTask own before after (task_read.Task task) = IsRead own before after task
ReadsTask own before after task_read.ReadFault = Unit {0}
ReadsTask own before after task_read.Memory = Unit {0}

-- the count of faults did not fall; it rose where the input failed, and is the same where it did not
pub record HasReadCause (before now : ℕ) (result : TaskRead) : Type 0 where
  pub later : before ≤ now
  pub failed : result ≡ task_read.ReadFault → Rose before now
  pub answered : (result ≡ task_read.ReadFault → ⊥) → now ≡ before

abbrev pub IsTask : {E : Type 0} → Result Task E → TaskRead → Type 0
IsTask (Ok task) result = result ≡ task_read.Task task
IsTask (Err wrong) result = result ≡ task_read.Memory

-- a text that is refused for this fault, which is not want of memory
abbrev pub IsRefusal : CommandFault → Task → Type 0
IsRefusal wrong task = (wrong ≢ fault.Memory) × (task ≡ Stop (note_line (refusal_text wrong)))
