-- What is noted of how a command ended: one line, or nothing.
use Rattle.std.specs.Prelude.{◌≡◌, ℕ, List, [], ◌++◌, codes, decimal, length, take, None, Some}
use Rattle.std.specs.Io.KnownBytes.{Appends}
use Rattle.std.specs.declared.option.Option.{Option}
use Rattle.edge_base.specs.Causes.{Rose}
use Rattle.edge_base.specs.declared.status.Status.{Status}
use Rattle.edge_base.specs.declared.status.Status.TheVariants as status
use Rattle.replay_script.specs.declared.script.ReplayEnd.{ReplayEnd}
use Rattle.replay_script.specs.declared.script.ReplayEnd.TheVariants as replay_end

-- this line, counted from 1, which begins at this byte, counted from 0, is no script line
abbrev pub bad_line_text : ℕ → ℕ → List ℕ
bad_line_text line at = codes "line " ++ decimal line ++ codes " at " ++ decimal at ++ codes ": not a script line\n"

abbrev pub bad_line_note : Option (ℕ × ℕ) → List ℕ
bad_line_note None = []
bad_line_note (Some place) = bad_line_text place.0 place.1

-- the note of a status, where the script stops at this line and byte
abbrev pub note_of : Status → Option (ℕ × ℕ) → List ℕ
note_of status.Done stops = []
note_of status.Script stops = bad_line_note stops
note_of status.Usage stops = codes "usage: cdnid replay | generate N SEED | audit | serve OPTIONS\n"
note_of status.ReadFault stops = codes "read fault\n"
note_of status.WriteFault stops = codes "write fault\n"
note_of status.Memory stops = codes "want of memory\n"
note_of status.Outside stops = codes "outside fault\n"

-- this line of the file of places, counted from 1, does not read
abbrev pub bad_place_text : ℕ → List ℕ
bad_place_text line = codes "places line " ++ decimal line ++ codes "\n"

-- the note of the status of serving, where this line does not read
abbrev pub serve_note : Status → Option ℕ → List ℕ
serve_note result None = note_of result None
serve_note result (Some line) = bad_place_text line

-- the same of the end of a replay
abbrev pub end_note : ReplayEnd → List ℕ
end_note replay_end.Done = []
end_note (replay_end.NotALine line at) = bad_line_text line at
end_note replay_end.ReadFault = codes "read fault\n"
end_note replay_end.WriteFault = codes "write fault\n"
end_note replay_end.Memory = codes "want of memory\n"

-- the sink took a front of the note, and the whole of it where its count of faults did not rise
pub record IsNoted (old new : Option (List ℕ)) (before now : ℕ) (note : List ℕ) : Type 0 where
  pub taken : ℕ
  pub front : Appends old new (take taken note)
  pub whole : (Rose before now → ⊥) → taken ≡ length note
