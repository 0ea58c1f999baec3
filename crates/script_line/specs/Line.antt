-- What the lines of a script say, as the definitions see it: with metadata as plain data.
use Rattle.std.specs.Prelude.{◌≡◌, ◌≢◌, ℕ, None, Some, Ok, Err}
use Rattle.std.specs.declared.option.Option.{Option}
use Rattle.std.specs.declared.result.Result.{Result}
use Rattle.cdni_base.specs.Limits.{Bounds}
use Rattle.metadata_objects.specs.declared.fault.MetaFault.{MetaFault}
use Rattle.metadata_objects.specs.declared.fault.MetaFault.TheVariants as meta_fault
use Rattle.history.specs.Event.{Entry, Event, event_of}
use Rattle.trigger_command.specs.declared.fault.CommandFault.{CommandFault}
use Rattle.trigger_command.specs.declared.fault.CommandFault.TheVariants as command_fault
use Rattle.script_line.specs.declared.line.ScriptFault.{ScriptFault}
use Rattle.script_line.specs.declared.line.ScriptFault.TheVariants as script_fault
use Rattle.script_line.specs.declared.line.ScriptLine.{ScriptLine}
use Rattle.script_line.specs.declared.line.ScriptLine.TheVariants as script_line

-- a call, and why the metadata that it would bring did not read
pub record Noted : Type 0 where
  pub event : Event
  pub note : Option MetaFault

-- the pass that calls, and its call
abbrev pub Scripted : Type 0
Scripted = ℕ × Noted

-- the entry of a line that calls
abbrev pub entry_of : Scripted → Entry
entry_of scripted = (scripted.0, scripted.1.event)

-- a line sets the limits, or calls, or its command is refused, which is no call
pub data Said : Type 0 where
  Sets : Bounds → Said
  Calls : Scripted → Said
  Refuses : CommandFault → Said

abbrev pub said_of : ScriptLine → Said
said_of (script_line.Limits limits) = Sets limits
said_of (script_line.Call pass call note) = Calls (pass, record { event = event_of call; note = note })
said_of (script_line.Refused fault) = Refuses fault

-- what is noted is not want of memory
abbrev pub IsNoMemory : Option MetaFault → Type 0
IsNoMemory (Some meta_fault.Memory) = ⊥
IsNoMemory _ = Unit {0}

-- no line tells of want of memory
abbrev pub TellsNoMemory : ScriptLine → Type 0
TellsNoMemory (script_line.Limits limits) = Unit {0}
TellsNoMemory (script_line.Call pass call note) = IsNoMemory note
TellsNoMemory (script_line.Refused fault) = fault ≢ command_fault.Memory

-- a reader gives this, if there is anything, or finds no memory
abbrev pub Gives : {A B : Type 0} → (A → B) → Result A ScriptFault → Option B → Type 0
Gives seen (Ok found) said = said ≡ Some (seen found)
Gives seen (Err script_fault.NotALine) said = said ≡ None
Gives seen (Err script_fault.Memory) said = Unit {0}

-- the same of a whole line, which tells of no want of memory
abbrev pub Reads : Result ScriptLine ScriptFault → Option Said → Type 0
Reads (Ok line) said = (said ≡ Some (said_of line)) × TellsNoMemory line
Reads (Err script_fault.NotALine) said = said ≡ None
Reads (Err script_fault.Memory) said = Unit {0}

-- this pass makes the call
abbrev pub on_pass : ℕ → Noted → Said
on_pass pass noted = Calls (pass, noted)
