-- How the replay of a script ends, what it read and what it wrote.
use Rattle.std.specs.Prelude.{◌≡◌, ℕ, ◌<◌, List, length, take, None, Some, ◌⊎◌}
use Rattle.std.specs.declared.option.Option.{Option}
use Rattle.std.specs.Io.KnownBytes.{Appends, Consumes, IsAtEnd}
use Rattle.replay_script.specs.Script.{answers, answers_read}
use Rattle.replay_script.specs.declared.script.ReplayEnd.{ReplayEnd}
use Rattle.replay_script.specs.declared.script.ReplayEnd.TheVariants as replay_end

-- where the input tells its bytes, they are these
abbrev pub IsTold : Option (List ℕ) → List ℕ → Type 0
IsTold None bytes = Unit {0}
IsTold (Some told) bytes = bytes ≡ told

-- a front of the text was added
abbrev pub AppendsFront : Option (List ℕ) → Option (List ℕ) → List ℕ → Type 0
AppendsFront old new text = (n : ℕ) × Appends old new (take n text)

-- a front of the text was added, and not all of it
abbrev pub AppendsPart : Option (List ℕ) → Option (List ℕ) → List ℕ → Type 0
AppendsPart old new text = (n : ℕ) × (n < length text) × Appends old new (take n text)

-- what the end of a replay says of the script, of what is left of it, and of the output
abbrev pub EndsAt : List ℕ → Option (List ℕ) → Option (List ℕ) → Option (List ℕ) → ReplayEnd → Type 0
EndsAt script left old new replay_end.Done = IsAtEnd left × ((answers script).stops ≡ None)
    × Appends old new (answers script).text
EndsAt script left old new (replay_end.NotALine line at) = ((answers script).stops ≡ Some (line, at))
    × Appends old new (answers script).text
EndsAt script left old new replay_end.ReadFault = AppendsFront old new (answers script).text
EndsAt script left old new replay_end.WriteFault = AppendsPart old new (answers script).text
EndsAt script left old new replay_end.Memory = AppendsFront old new (answers script).text

-- the same of the script that the input tells
abbrev pub Ends : Option (List ℕ) → Option (List ℕ) → Option (List ℕ) → Option (List ℕ) → ReplayEnd → Type 0
Ends before after old new result = (script : List ℕ) × IsTold before script × EndsAt script after old new result

-- what it says of the bytes that were read: at the end and at a failed read each line that was read whole is a script
-- line and is answered; a line that is none was read whole, or the input ended in it; at a failed write not all of
-- these answers were written
abbrev pub ReadsTo : List ℕ → Option (List ℕ) → Option (List ℕ) → Option (List ℕ) → ReplayEnd → Type 0
ReadsTo bytes left old new replay_end.Done = (answers_read bytes).stops ≡ None
ReadsTo bytes left old new (replay_end.NotALine line at) = ((answers_read bytes).stops ≡ Some (line, at)) ⊎ IsAtEnd left
ReadsTo bytes left old new replay_end.ReadFault = ((answers_read bytes).stops ≡ None)
    × Appends old new (answers_read bytes).text
ReadsTo bytes left old new replay_end.WriteFault = AppendsPart old new (answers_read bytes).text
ReadsTo bytes left old new replay_end.Memory = Unit {0}

abbrev pub Reads : Option (List ℕ) → Option (List ℕ) → Option (List ℕ) → Option (List ℕ) → ReplayEnd → Type 0
Reads before after old new result = (bytes : List ℕ) × Consumes before after bytes × ReadsTo bytes after old new result
