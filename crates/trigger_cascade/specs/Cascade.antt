-- How passing a trigger command on ends.
use Rattle.std.specs.Prelude.{◌≡◌, ◌≢◌, ◌⊎◌, ℕ, ◌+◌, ◌<◌, ◌≤◌, min, List, [], ◌∷◌, ◌++◌, length, map, take, None, Some, codes}
use Rattle.std.specs.Io.KnownBytes.{Appends, Keeps}
use Rattle.std.specs.declared.option.Option.{Option}
use Rattle.cdni_base.specs.declared.provider.ProviderId.{ProviderId}
use Rattle.edge_base.specs.Causes.{Rose}
use Rattle.edge_base.specs.Clock.{Grows}
use Rattle.edge_base.specs.declared.causes.TheConstants.{MOST_FAULTS}
use Rattle.edge_base.specs.declared.status.Status.{Status}
use Rattle.edge_base.specs.declared.status.Status.TheVariants as status
use Rattle.trigger_cascade.specs.Cdn.{fault_count}
use Rattle.trigger_cascade.specs.OrderParts.{OrderParts}
use Rattle.trigger_cascade.specs.Passing.{started, Counts, Passes}
use Rattle.trigger_cascade.specs.Report.{report}
use Rattle.trigger_cascade.specs.Task.{note_line, task_in, IsRead}
use Rattle.trigger_cascade.specs.declared.cascade.CascadeEnd.{CascadeEnd}
use Rattle.trigger_cascade.specs.declared.cascade.CascadeEnd.TheVariants as end
use Rattle.trigger_cascade.specs.declared.cdn.Cdn.{Cdn}
use Rattle.trigger_cascade.specs.declared.link.LinkCall.{LinkCall}
use Rattle.trigger_cascade.specs.declared.task.Task.{Task}
use Rattle.trigger_cascade.specs.declared.task.Task.TheVariants.{PassOn, Stop}
use Rattle.trigger_command.specs.Spec.{SpecParts}
use Rattle.trigger_status.specs.Command.{command_text}

abbrev pub status_of : CascadeEnd → Status
status_of end.Done = status.Done
status_of (end.Stopped note) = status.Script
status_of end.Usage = status.Usage
status_of end.ReadFault = status.ReadFault
status_of end.WriteFault = status.WriteFault
status_of end.Memory = status.Memory

abbrev pub note_of : CascadeEnd → List ℕ
note_of end.Done = []
note_of (end.Stopped note) = note
note_of end.Usage = note_line (codes "usage: cdnid replay | generate N SEED | audit | serve OPTIONS")
note_of end.ReadFault = note_line (codes "read fault")
note_of end.WriteFault = note_line (codes "write fault")
note_of end.Memory = note_line (codes "want of memory")

-- the calls on the link, where they are told, and its count of faults
pub record LinkTold : Type 0 where
  pub calls : Option (List LinkCall)
  pub faults : ℕ

-- the same, and what the input has left and the output holds, where it is told
pub record Told : Type 0 where
  pub left : Option (List ℕ)
  pub held : Option (List ℕ)
  pub link : LinkTold

-- nothing was written, and no call was made
abbrev pub IsQuiet : Told → Told → Type 0
IsQuiet before after = Keeps before.held after.held × Grows before.link.calls after.link.calls []

-- the rounds for this command were made of CDNs that stood so, and they stand now as the last list says
pub record Ran (body : List ℕ) (rounds : ℕ) (start : List Cdn) (before after : LinkTold)
    (last : List Cdn) : Type 0 where
  pub made : List LinkCall
  pub told : Grows before.calls after.calls made
  pub passes : Passes body (rounds + 1) start made (Some last)
  pub counts : Counts before.faults after.faults start last

-- the command that is posted: this CDN is added to the end of its path (RFC 8007, section 4.6)
abbrev pub passed_text : OrderParts → List ProviderId → SpecParts → List ℕ
passed_text order path spec = command_text (path ++ order.own ∷ []) spec

-- The calls by which a command with this path and trigger is passed on, and how the CDNs stand then: a round in which
-- it is posted to those that it did not come through, and as many rounds of polls as the words say.
abbrev pub Runs : OrderParts → List ProviderId → SpecParts → List LinkCall → Option (List Cdn) → Type 0
Runs order path spec made last =
    Passes (passed_text order path spec) (order.rounds + 1) (map (started path) order.cdns) made last

-- it was passed on, these CDNs stand so, and no more of them have a fault than the link counted
pub record IsJoined (order : OrderParts) (path : List ProviderId) (spec : SpecParts) (before after : LinkTold)
    (cdns : List Cdn) : Type 0 where
  pub made : List LinkCall
  pub told : Grows before.calls after.calls made
  pub runs : Runs order path spec made (Some cdns)
  pub faults : min (before.faults + fault_count cdns) MOST_FAULTS ≤ after.faults

-- no memory was found: before the first call, at a call, or behind the last
pub record IsCut (order : OrderParts) (path : List ProviderId) (spec : SpecParts)
    (before after : LinkTold) : Type 0 where
  pub made : List LinkCall
  pub told : Grows before.calls after.calls made
  pub last : Option (List Cdn)
  pub runs : (made ≡ []) ⊎ Runs order path spec made last

-- a front of the text was added, and not all of it
abbrev pub AppendsSome : Option (List ℕ) → Option (List ℕ) → List ℕ → Type 0
AppendsSome old new text = (n : ℕ) × (n < length text) × Appends old new (take n text)

-- how a command that is passed on ends
abbrev pub PassesOn : OrderParts → List ProviderId → SpecParts → Told → Told → CascadeEnd → Type 0
PassesOn order path spec before after end.Done = (cdns : List Cdn)
    × IsJoined order path spec before.link after.link cdns × Appends before.held after.held (report cdns)
PassesOn order path spec before after end.WriteFault = (cdns : List Cdn)
    × IsJoined order path spec before.link after.link cdns × AppendsSome before.held after.held (report cdns)
PassesOn order path spec before after end.Memory = Keeps before.held after.held
    × IsCut order path spec before.link after.link
PassesOn order path spec before after (end.Stopped note) = ⊥
PassesOn order path spec before after end.Usage = ⊥
PassesOn order path spec before after end.ReadFault = ⊥

-- the input is a trigger command, it was read to its end, and it is passed on
abbrev pub PassesInput : OrderParts → Told → Told → CascadeEnd → Type 0
PassesInput order before after last = (path : List ProviderId) × (spec : SpecParts)
    × IsRead order.own before.left after.left (PassOn path spec) × PassesOn order path spec before after last

-- how an order ends
abbrev pub EndsAt : OrderParts → Told → Told → CascadeEnd → Type 0
EndsAt order before after end.Done = PassesInput order before after end.Done
EndsAt order before after end.WriteFault = PassesInput order before after end.WriteFault
EndsAt order before after end.Memory = IsQuiet before after ⊎ PassesInput order before after end.Memory
EndsAt order before after (end.Stopped note) = IsRead order.own before.left after.left (Stop note)
    × IsQuiet before after
EndsAt order before after end.ReadFault = IsQuiet before after
EndsAt order before after end.Usage = ⊥

-- how the command ends by its words: where they are not this command nothing is read, written or called
pub record IsRefused (before after : Told) (result : CascadeEnd) : Type 0 where
  pub end : (result ≡ end.Usage) ⊎ (result ≡ end.Memory)
  pub left : Keeps before.left after.left
  pub quiet : IsQuiet before after

abbrev pub CascadesBy : Option OrderParts → Told → Told → CascadeEnd → Type 0
CascadesBy None before after result = IsRefused before after result
CascadesBy (Some order) before after result = EndsAt order before after result

-- the sink took a front of the note, and the whole of it where its count of faults did not rise
abbrev pub Notes : Option (List ℕ) → Option (List ℕ) → ℕ → ℕ → List ℕ → Type 0
Notes old new before now note = (taken : ℕ) × Appends old new (take taken note)
    × ((Rose before now → ⊥) → taken ≡ length note)

-- an order ends so, with this status and this note
abbrev pub Serves : OrderParts → Told → Told → (List ℕ → Type 0) → Status → Type 0
Serves order before after noted result = (last : CascadeEnd) × EndsAt order before after last
    × (result ≡ status_of last) × noted (note_of last)

-- the words are not this command, or no memory was found to read them: nothing is read, written or called
abbrev pub Refuses : Told → Told → (List ℕ → Type 0) → Status → Type 0
Refuses before after noted result = (last : CascadeEnd) × IsRefused before after last
    × (result ≡ status_of last) × noted (note_of last)

-- The answer to a told input where neither it nor the output fails: a trigger command is passed on, and nothing else is,
-- unless no memory is found.
abbrev pub Answers : Task → Status → Type 0
Answers (PassOn path spec) result = (result ≡ status.Done) ⊎ (result ≡ status.Memory)
Answers (Stop note) result = (result ≡ status.Script) ⊎ (result ≡ status.Memory)

-- the count of faults of an object did not fall; it rose where it is the cause of the end, and is else the same
pub record HasCauseOf (cause : CascadeEnd) (before now : ℕ) (result : CascadeEnd) : Type 0 where
  pub later : before ≤ now
  pub rose : result ≡ cause → Rose before now
  pub same : result ≢ cause → now ≡ before
