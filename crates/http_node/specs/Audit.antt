-- How the check of a log file ends.
use Rattle.std.specs.Prelude.{◌≡◌, ◌≢◌, ◌⊎◌, ◌<◌, ◌≤◌, ℕ, List, [], ◌++◌, codes, decimal, length, None}
use Rattle.std.specs.Io.KnownBytes.{Appends, Consumes, IsAtEnd, Keeps}
use Rattle.std.specs.declared.option.Option.{Option}
use Rattle.audit_report.specs.Report.{report_text}
use Rattle.edge_base.specs.Causes.{Rose}
use Rattle.edge_base.specs.declared.status.Status.{Status}
use Rattle.edge_base.specs.declared.status.Status.TheVariants as status
use Rattle.http_node.specs.Note.{note_of}
use Rattle.http_node.specs.declared.audit.AuditEnd.{AuditEnd}
use Rattle.http_node.specs.declared.audit.AuditEnd.TheVariants as end
use Rattle.http_node.specs.declared.audit.Input.{Input}
use Rattle.http_node.specs.declared.audit.Input.TheVariants as input
use Rattle.log_audit.specs.Audit.{HasSums, IsFaultOf, IsWithin, ReadsFile}
use Rattle.log_audit.specs.LogFile.{true_hash, LogFile, IsLogFile}
use Rattle.log_audit.specs.declared.fault.AuditFault.{AuditFault}
use Rattle.log_audit.specs.declared.fault.AuditFault.TheVariants as wrong
use Rattle.log_audit.specs.declared.audited.Audited.{Audited}
use Rattle.replay_script.specs.Replay.{IsTold, AppendsPart}

-- a log file within the limit, whose hash is that of its bytes
abbrev pub IsAcceptable : List ℕ → Type 0
IsAcceptable text = IsWithin text × (file : LogFile) × IsLogFile text file × (file.hash ≡ true_hash file)

-- the text is accepted, and this is told of it
abbrev pub IsToldOf : List ℕ → Audited → Type 0
IsToldOf text audited = ReadsFile text audited × ((file : LogFile) → IsLogFile text file → HasSums file audited)

-- the note of a text that is not accepted
abbrev pub fault_note : AuditFault → List ℕ
fault_note (wrong.TooLong len) = codes "too long\n"
fault_note (wrong.BadLine line) = codes "line " ++ decimal line ++ codes ": not a log line\n"
fault_note (wrong.BadHash written found) = codes "hash " ++ written ++ codes " " ++ found ++ codes "\n"
fault_note wrong.Memory = codes "want of memory\n"

-- the text is not accepted, and this is the note that says why
pub record IsRefused (text note : List ℕ) : Type 0 where
  pub fault : AuditFault
  pub cause : fault ≢ wrong.Memory
  pub fault_is : IsFaultOf text fault
  pub note_is : note ≡ fault_note fault
  pub unacceptable : IsAcceptable text → ⊥

abbrev pub status_of : AuditEnd → Status
status_of end.Done = status.Done
status_of (end.Refused note) = status.Script
status_of end.ReadFault = status.ReadFault
status_of end.WriteFault = status.WriteFault
status_of end.Memory = status.Memory

abbrev pub note_of_end : AuditEnd → List ℕ
note_of_end end.Done = []
note_of_end (end.Refused note) = note.items
note_of_end end.ReadFault = note_of status.ReadFault None
note_of_end end.WriteFault = note_of status.WriteFault None
note_of_end end.Memory = note_of status.Memory None

-- what the end of the check of a text says of it and of the output
abbrev pub EndsAt : List ℕ → Option (List ℕ) → Option (List ℕ) → AuditEnd → Type 0
EndsAt text old new end.Done = (audited : Audited) × IsToldOf text audited × Appends old new (report_text audited)
EndsAt text old new (end.Refused note) = IsRefused text note.items × Keeps old new
EndsAt text old new end.ReadFault = Keeps old new
EndsAt text old new end.WriteFault = (audited : Audited) × IsToldOf text audited
    × AppendsPart old new (report_text audited)
EndsAt text old new end.Memory = Keeps old new

-- the input was read to its end, where the file is accepted
abbrev pub ReadsAll : List ℕ → Option (List ℕ) → Option (List ℕ) → AuditEnd → Type 0
ReadsAll text before after end.Done = Consumes before after text × IsAtEnd after
ReadsAll text before after end.WriteFault = Consumes before after text × IsAtEnd after
ReadsAll text before after (end.Refused note) = Unit {0}
ReadsAll text before after end.ReadFault = Unit {0}
ReadsAll text before after end.Memory = Unit {0}

-- the same of the text that the input tells
abbrev pub Ends : Option (List ℕ) → Option (List ℕ) → Option (List ℕ) → Option (List ℕ) → AuditEnd → Type 0
Ends before after old new result = (text : List ℕ) × IsTold before text × ReadsAll text before after result
    × EndsAt text old new result

-- how the command ends, with this status and this note
abbrev pub Audits : Option (List ℕ) → Option (List ℕ) → Option (List ℕ) → Option (List ℕ) → (List ℕ → Type 0)
    → Status → Type 0
Audits before after old new noted result = (last : AuditEnd) × Ends before after old new last
    × (result ≡ status_of last) × noted (note_of_end last)

-- where neither stream failed, what is acceptable is accepted, and nothing else is, unless memory was wanted
abbrev pub IsSettled : List ℕ → Status → Type 0
IsSettled text result = (IsAcceptable text → (result ≡ status.Done) ⊎ (result ≡ status.Memory))
    × ((IsAcceptable text → ⊥) → (result ≡ status.Script) ⊎ (result ≡ status.Memory))

-- ---- its parts

-- what reading the input gave: all of it, or more than is checked
abbrev pub ReadsInput : Option (List ℕ) → Option (List ℕ) → Input → Type 0
ReadsInput before after (input.Whole text) = Consumes before after text × IsAtEnd after × (length text ≤ 268435456)
ReadsInput before after input.TooLong = (text : List ℕ) × IsTold before text × (268435456 < length text)
ReadsInput before after input.ReadFault = Unit {0}
ReadsInput before after input.Memory = Unit {0}

-- the count of faults did not fall; it rose where the input failed, and is the same where it did not
pub record HasInputCause (before now : ℕ) (result : Input) : Type 0 where
  pub later : before ≤ now
  pub failed : result ≡ input.ReadFault → Rose before now
  pub answered : result ≢ input.ReadFault → now ≡ before

-- what is told of a log file was written, or a part of it, or nothing for want of memory
abbrev pub IsEndOf : Audited → Option (List ℕ) → Option (List ℕ) → AuditEnd → Type 0
IsEndOf audited old new end.Done = Appends old new (report_text audited)
IsEndOf audited old new end.WriteFault = AppendsPart old new (report_text audited)
IsEndOf audited old new end.Memory = Keeps old new
IsEndOf audited old new end.ReadFault = ⊥
IsEndOf audited old new (end.Refused note) = ⊥

-- the text is refused for this fault, or memory was wanted
abbrev pub IsRefusal : AuditFault → AuditEnd → Type 0
IsRefusal fault end.Memory = Unit {0}
IsRefusal fault (end.Refused note) = (fault ≢ wrong.Memory) × (note.items ≡ fault_note fault)
IsRefusal fault end.Done = ⊥
IsRefusal fault end.ReadFault = ⊥
IsRefusal fault end.WriteFault = ⊥
