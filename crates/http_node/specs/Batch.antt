-- How a command ends.
use Rattle.std.specs.Prelude.{◌≡◌, ℕ, List, ◌++◌, None, Some, ◌⊎◌}
use Rattle.std.specs.declared.option.Option.{Option}
use Rattle.std.specs.Io.KnownBytes.{Appends, Consumes, Keeps, IsAtEnd}
use Rattle.answer_summary.specs.Summary.{summary_text}
use Rattle.edge_base.specs.declared.status.Status.{Status}
use Rattle.edge_base.specs.declared.status.Status.TheVariants as status
use Rattle.http_node.specs.Note.{note_of}
use Rattle.replay_script.specs.Script.{answers, answers_read, summary_rows}
use Rattle.replay_script.specs.Replay.{IsTold, AppendsFront, AppendsPart}
use Rattle.replay_script.specs.declared.script.ReplayEnd.{ReplayEnd}
use Rattle.replay_script.specs.declared.script.ReplayEnd.TheVariants as replay_end

-- the status of the end of a replay
abbrev pub status_of : ReplayEnd → Status
status_of replay_end.Done = status.Done
status_of (replay_end.NotALine line at) = status.Script
status_of replay_end.ReadFault = status.ReadFault
status_of replay_end.WriteFault = status.WriteFault
status_of replay_end.Memory = status.Memory

abbrev pub Stops : Option (ℕ × ℕ) → Type 0
Stops None = ⊥
Stops (Some place) = Unit {0}

-- what the status of the whole command says of the script, of what is left of it, and of the output
abbrev pub StatusAt : List ℕ → Option (List ℕ) → Option (List ℕ) → Option (List ℕ) → Status → Type 0
StatusAt script left old new status.Done = IsAtEnd left × ((answers script).stops ≡ None)
    × Appends old new (answers script).text
StatusAt script left old new status.Script = Stops (answers script).stops × Appends old new (answers script).text
StatusAt script left old new status.Usage = ⊥
StatusAt script left old new status.ReadFault = AppendsFront old new (answers script).text
StatusAt script left old new status.WriteFault = AppendsPart old new (answers script).text
StatusAt script left old new status.Memory = AppendsFront old new (answers script).text
StatusAt script left old new status.Outside = ⊥

-- the same of the script that the input tells, and the note of the status was given so
abbrev pub Replays : Option (List ℕ) → Option (List ℕ) → Option (List ℕ) → Option (List ℕ) → (List ℕ → Type 0)
    → Status → Type 0
Replays before after old new noted result = (script : List ℕ) × IsTold before script
    × StatusAt script after old new result × noted (note_of result (answers script).stops)

-- what it says of the bytes that were read: at the end and at a failed read each line that was read whole is a script
-- line and is answered; a line that is none was read whole, or the input ended in it; at a failed write not all of
-- these answers were written
abbrev pub ReadsAt : List ℕ → Option (List ℕ) → Option (List ℕ) → Option (List ℕ) → Status → Type 0
ReadsAt bytes left old new status.Done = (answers_read bytes).stops ≡ None
ReadsAt bytes left old new status.Script = Stops (answers_read bytes).stops ⊎ IsAtEnd left
ReadsAt bytes left old new status.Usage = ⊥
ReadsAt bytes left old new status.ReadFault = ((answers_read bytes).stops ≡ None)
    × Appends old new (answers_read bytes).text
ReadsAt bytes left old new status.WriteFault = AppendsPart old new (answers_read bytes).text
ReadsAt bytes left old new status.Memory = Unit {0}
ReadsAt bytes left old new status.Outside = ⊥

abbrev pub ReadsScript : Option (List ℕ) → Option (List ℕ) → Option (List ℕ) → Option (List ℕ) → Status → Type 0
ReadsScript before after old new result = (bytes : List ℕ) × Consumes before after bytes
    × ReadsAt bytes after old new result

-- where input and output tell: a line was read whole that is none, and every answer before it was written
abbrev pub MeetsNone : Option (List ℕ) → Option (List ℕ) → Option (List ℕ) → Option (List ℕ) → Type 0
MeetsNone (Some before) (Some after) (Some old) (Some new) =
    (bytes : List ℕ) × (before ≡ bytes ++ after) × Stops (answers_read bytes).stops
    × (new ≡ old ++ (answers_read bytes).text)
MeetsNone before after old new = ⊥

-- ---- the summary

-- the text of the summary of the answers of a script
abbrev pub summary_of : List ℕ → List ℕ
summary_of script = summary_text (summary_rows script)

-- what the status of the whole command says of the script, of what is left of it, and of the output: nothing is written
-- where a line is none or the input failed
abbrev pub SummaryAt : List ℕ → Option (List ℕ) → Option (List ℕ) → Option (List ℕ) → Status → Type 0
SummaryAt script left old new status.Done = IsAtEnd left × ((answers script).stops ≡ None)
    × Appends old new (summary_of script)
SummaryAt script left old new status.Script = Stops (answers script).stops × Keeps old new
SummaryAt script left old new status.Usage = ⊥
SummaryAt script left old new status.ReadFault = Keeps old new
SummaryAt script left old new status.WriteFault = IsAtEnd left × ((answers script).stops ≡ None)
    × AppendsPart old new (summary_of script)
SummaryAt script left old new status.Memory = AppendsFront old new (summary_of script)
SummaryAt script left old new status.Outside = ⊥

-- the same of the end, with the number and place of a line that is none
abbrev pub SummaryEndsAt : List ℕ → Option (List ℕ) → Option (List ℕ) → Option (List ℕ) → ReplayEnd → Type 0
SummaryEndsAt script left old new replay_end.Done = IsAtEnd left × ((answers script).stops ≡ None)
    × Appends old new (summary_of script)
SummaryEndsAt script left old new (replay_end.NotALine line at) = ((answers script).stops ≡ Some (line, at))
    × Keeps old new
SummaryEndsAt script left old new replay_end.ReadFault = Keeps old new
SummaryEndsAt script left old new replay_end.WriteFault = IsAtEnd left × ((answers script).stops ≡ None)
    × AppendsPart old new (summary_of script)
SummaryEndsAt script left old new replay_end.Memory = AppendsFront old new (summary_of script)

abbrev pub WritesSummary : Option (List ℕ) → Option (List ℕ) → Option (List ℕ) → Option (List ℕ) → ReplayEnd → Type 0
WritesSummary before after old new result = (script : List ℕ) × IsTold before script
    × SummaryEndsAt script after old new result

-- the same of the script that the input tells, and the note of the status was given so
abbrev pub Sums : Option (List ℕ) → Option (List ℕ) → Option (List ℕ) → Option (List ℕ) → (List ℕ → Type 0) → Status
    → Type 0
Sums before after old new noted result = (script : List ℕ) × IsTold before script
    × SummaryAt script after old new result × noted (note_of result (answers script).stops)

-- what it says of the bytes that were read: a line that is none was read whole, or the input ended in it; with no other
-- status but want of memory was a line read whole that is none
abbrev pub SummedAt : List ℕ → Option (List ℕ) → Status → Type 0
SummedAt bytes left status.Done = (answers_read bytes).stops ≡ None
SummedAt bytes left status.Script = Stops (answers_read bytes).stops ⊎ IsAtEnd left
SummedAt bytes left status.Usage = ⊥
SummedAt bytes left status.ReadFault = (answers_read bytes).stops ≡ None
SummedAt bytes left status.WriteFault = (answers_read bytes).stops ≡ None
SummedAt bytes left status.Memory = Unit {0}
SummedAt bytes left status.Outside = ⊥

abbrev pub ReadsSummary : Option (List ℕ) → Option (List ℕ) → Status → Type 0
ReadsSummary before after result = (bytes : List ℕ) × Consumes before after bytes × SummedAt bytes after result

-- where the input tells: a line was read whole that is none
abbrev pub ReadsNone : Option (List ℕ) → Option (List ℕ) → Type 0
ReadsNone (Some before) (Some after) =
    (bytes : List ℕ) × (before ≡ bytes ++ after) × Stops (answers_read bytes).stops
ReadsNone before after = ⊥
