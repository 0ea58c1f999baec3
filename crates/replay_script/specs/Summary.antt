-- How a script is summed up, and what was read of it.
use Rattle.std.specs.Prelude.{◌≡◌, ℕ, List, None, Some, ◌⊎◌}
use Rattle.std.specs.declared.option.Option.{Option}
use Rattle.std.specs.Io.KnownBytes.{Consumes, IsAtEnd}
use Rattle.answer_summary.specs.declared.summary.Row.{Row}
use Rattle.replay_script.specs.Replay.{IsTold}
use Rattle.replay_script.specs.Script.{answers, answers_read, summary_rows}
use Rattle.replay_script.specs.declared.script.ReplayEnd.{ReplayEnd}
use Rattle.replay_script.specs.declared.script.ReplayEnd.TheVariants as replay_end

-- what the end says of the script, of what is left of it, and of the summary
abbrev pub SumsAt : List ℕ → Option (List ℕ) → List Row → ReplayEnd → Type 0
SumsAt script left rows replay_end.Done = IsAtEnd left × ((answers script).stops ≡ None) × (rows ≡ summary_rows script)
SumsAt script left rows (replay_end.NotALine line at) = (answers script).stops ≡ Some (line, at)
SumsAt script left rows replay_end.ReadFault = Unit {0}
SumsAt script left rows replay_end.WriteFault = ⊥
SumsAt script left rows replay_end.Memory = Unit {0}

-- the same of the script that the input tells
abbrev pub Summarizes : Option (List ℕ) → Option (List ℕ) → List Row → ReplayEnd → Type 0
Summarizes before after rows result = (script : List ℕ) × IsTold before script × SumsAt script after rows result

-- what it says of the bytes that were read: at the end and at a failed read each line that was read whole is a script
-- line; a line that is none was read whole, or the input ended in it
abbrev pub SumsTo : List ℕ → Option (List ℕ) → ReplayEnd → Type 0
SumsTo bytes left replay_end.Done = (answers_read bytes).stops ≡ None
SumsTo bytes left (replay_end.NotALine line at) = ((answers_read bytes).stops ≡ Some (line, at)) ⊎ IsAtEnd left
SumsTo bytes left replay_end.ReadFault = (answers_read bytes).stops ≡ None
SumsTo bytes left replay_end.WriteFault = ⊥
SumsTo bytes left replay_end.Memory = Unit {0}

abbrev pub ReadsSummed : Option (List ℕ) → Option (List ℕ) → ReplayEnd → Type 0
ReadsSummed before after result = (bytes : List ℕ) × Consumes before after bytes × SumsTo bytes after result
