-- A script and its answers.
use Rattle.std.specs.Prelude.{◌≡◌, ℕ, ◌+◌, Bool, true, IsTrue, List, [], ◌∷◌, ◌++◌, length, None, Some, ◌&&◌, ◌==◌, false, codes, nat_le, if◌then◌else◌}
use Rattle.std.specs.List.{concat}
use Rattle.std.specs.Option.{option_and_then, option_map_or}
use Rattle.answer_summary.specs.Summary.{rows_of}
use Rattle.answer_summary.specs.declared.summary.Row.{Row}
use Rattle.std.specs.declared.option.Option.{Option}
use Rattle.cdni_base.specs.Limits.{Bounds, default_limits}
use Rattle.cdni_log.specs.FieldList.{default_fields}
use Rattle.script_line.specs.Answer.{answer_line, refused_line}
use Rattle.history.specs.Event.{History}
use Rattle.history.specs.History.{reply_to}
use Rattle.history.specs.World.{Made, node_made}
use Rattle.trigger_command.specs.declared.fault.CommandFault.{CommandFault}
use Rattle.script_line.specs.Line.{Said, Scripted, Sets, Calls, Refuses, entry_of}
use Rattle.node_core.specs.Node.{NodeView, Stands}
use Rattle.script_line.specs.Grammar.{line_of}
use Rattle.replay_script.specs.Lines.{Line, lines_of, whole_lines}
use Rattle.replay_script.specs.declared.step.TheConstants.{LINE_LIMIT}
use Rattle.replay_script.specs.declared.step.Stepped.{Stepped}
use Rattle.replay_script.specs.declared.step.Stepped.TheVariants as stepped
use Rattle.replay_script.specs.declared.step.TheConstants.{SCRIPT_LIMIT}

-- a line of so many bytes, its line feed counted, that begins at this place of the script, is not too long and ends in
-- time
abbrev pub fits : ℕ → ℕ → Bool
fits at len = nat_le len LINE_LIMIT && nat_le (at + len) SCRIPT_LIMIT

-- the first line of a script may set the limits
abbrev pub is_allowed : Bool → Said → Option Said
is_allowed first (Calls scripted) = Some (Calls scripted)
is_allowed first (Refuses fault) = Some (Refuses fault)
is_allowed true (Sets limits) = Some (Sets limits)
is_allowed false (Sets limits) = None

-- what the line says that begins at this place, if it is a script line there
unfoldable pub next_said : Bool → ℕ → Line → Option Said
next_said first at line = if line.ended && fits at (length line.body + 1)
    then option_and_then (is_allowed first) (line_of line.body) else None

-- what the lines so far made: a node, and its history
pub record Past : Type 0 where
  pub made : Made
  pub entries : History

-- a node of these limits, whose log files claim the host of the scripts, and have the fields that a node has where nothing
-- else is asked for
abbrev pub made_with : Bounds → Past
made_with limits = record { made = node_made limits (codes "dcdn.example") default_fields; entries = [] }

-- the next line begins anew under its limits, or is one entry more; a command that is refused is no entry
abbrev pub grown : Past → Said → Past
grown past (Sets limits) = made_with limits
grown past (Calls scripted) = record past { entries = past.entries ++ entry_of scripted ∷ [] }
grown past (Refuses fault) = past

-- its answer
abbrev pub answer_of : Past → Said → List ℕ
answer_of past (Sets limits) = []
answer_of past (Calls scripted) = answer_line (reply_to past.made past.entries (entry_of scripted)) scripted.1.note
answer_of past (Refuses fault) = refused_line fault

-- the answers of a script, one after the other, and the number and place of the first line that is none, counted from 1
-- and 0
pub record Listed : Type 0 where
  pub each : List (List ℕ)
  pub stops : Option (ℕ × ℕ)

abbrev pub with_answer : List ℕ → Listed → Listed
with_answer answer rest = record { each = answer ∷ rest.each; stops = rest.stops }

-- the answers of the lines that follow, of which the first has this number and begins at this place
unfoldable pub listed_from : ℕ → ℕ → Past → List Line → Listed
listed_from number at past [] = record { each = []; stops = None }
listed_from number at past (line ∷ lines) = option_map_or
    (λ said. with_answer (answer_of past said) (listed_from (number + 1) (at + (length line.body + 1)) (grown past said)
    lines)) (next_said (number == 1) at line) (record { each = []; stops = Some (number, at) })

-- those of all lines, under the standard limits where the first line sets none
unfoldable pub listed_of : List Line → Listed
listed_of lines = listed_from 1 0 (made_with default_limits) lines

-- the answers of a script as one text, and the number and place of the first line that is none
pub record Answered : Type 0 where
  pub text : List ℕ
  pub stops : Option (ℕ × ℕ)

-- the answers joined
abbrev pub joined : Listed → Answered
joined listed = record { text = concat listed.each; stops = listed.stops }

unfoldable pub answers_of : List Line → Answered
answers_of lines = joined (listed_of lines)

-- the answers of a whole script
abbrev pub answers : List ℕ → Answered
answers script = answers_of (lines_of script)

-- the answers of the lines that were read whole, where these bytes were read
abbrev pub answers_read : List ℕ → Answered
answers_read bytes = answers_of (whole_lines bytes)

-- the summary of the answers of a whole script
unfoldable pub summary_rows : List ℕ → List Row
summary_rows script = rows_of (listed_of (lines_of script)).each

-- ---- one line

-- the node begins anew under these limits, where they stand in the first line
abbrev pub SetsLimits : NodeView → Bool → Bounds → Stepped → Type 0
SetsLimits new first limits stepped.Answered =
    (first ≡ true) × Stands new (made_with limits).made (made_with limits).entries
SetsLimits new first limits stepped.NotALine = first ≡ false
SetsLimits new first limits stepped.Memory = Unit {0}

-- the call is taken in, and its answer is added
abbrev pub Answers : NodeView → NodeView → Scripted → List ℕ → List ℕ → Stepped → Type 0
Answers old new scripted before now stepped.Answered = (past : Past) → Stands old past.made past.entries
    → Stands new past.made (past.entries ++ entry_of scripted ∷ [])
    × (now ≡ before ++ answer_of past (Calls scripted))
Answers old new scripted before now stepped.NotALine = ⊥
Answers old new scripted before now stepped.Memory = Unit {0}

-- the command is refused, and the answer is added
abbrev pub AnswersRefusal : CommandFault → List ℕ → List ℕ → Stepped → Type 0
AnswersRefusal fault before now stepped.Answered = now ≡ before ++ refused_line fault
AnswersRefusal fault before now stepped.NotALine = ⊥
AnswersRefusal fault before now stepped.Memory = Unit {0}

-- the node stands for what the lines made with this one, and this is its answer
abbrev pub TakesIn : NodeView → Past → Said → List ℕ → Type 0
TakesIn new past said answer =
    Stands new (grown past said).made (grown past said).entries × (answer ≡ answer_of past said)

-- the line was taken in, and its answer is this; or it is no script line; want of memory comes within the limits alone
abbrev pub StepsTo : NodeView → NodeView → Bool → ℕ → List ℕ → List ℕ → Stepped → Type 0
StepsTo old new first at body answer stepped.Answered = (said : Said)
    × (next_said first at (record { body = body; ended = true }) ≡ Some said)
    × ((past : Past) → Stands old past.made past.entries → TakesIn new past said answer)
StepsTo old new first at body answer stepped.NotALine =
    next_said first at (record { body = body; ended = true }) ≡ None
StepsTo old new first at body answer stepped.Memory = IsTrue (fits at (length body + 1))
