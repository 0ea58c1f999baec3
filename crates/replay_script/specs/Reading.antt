-- A script on its way, and how its reading ends.
use Rattle.std.specs.Prelude.{◌≡◌, ℕ, ◌+◌, List, [], ◌∷◌, ◌++◌, length, None, Some, Ok, Err, ◌⊎◌}
use Rattle.std.specs.declared.option.Option.{Option}
use Rattle.std.specs.declared.result.Result.{Result}
use Rattle.std.specs.Io.KnownBytes.{Consumes, IsAtEnd}
use Rattle.node_core.specs.Node.{NodeView, Stands}
use Rattle.replay_script.specs.Lines.{Line, lines_of, whole_lines}
use Rattle.replay_script.specs.Replay.{IsTold}
use Rattle.replay_script.specs.Script.{Past, Listed, listed_from, listed_of}
use Rattle.replay_script.specs.declared.script.ReplayEnd.{ReplayEnd}
use Rattle.replay_script.specs.declared.script.ReplayEnd.TheVariants as replay_end

-- the node, its last answer, what was read ahead, and the number and place of the next line
pub record Underway : Type 0 where
  pub node : NodeView
  pub answer : List ℕ
  pub ahead : List ℕ
  pub number : ℕ
  pub at : ℕ

abbrev pub with_each : List (List ℕ) → Listed → Listed
with_each given rest = record { each = given ++ rest.each; stops = rest.stops }

-- what was taken, with anything behind it, has the answers that were given, and then those of the lines that follow
abbrev pub Follows : (List ℕ → List Line) → List ℕ → List (List ℕ) → Past → Underway → Type 0
Follows cut taken given past way = (more : List ℕ)
    → listed_of (cut (taken ++ more)) ≡ with_each given (listed_from way.number way.at past (cut (way.ahead ++ more)))

-- so much was read that these answers were given, one for each line, and the node stands for what the lines made
pub record Running (before after : Option (List ℕ)) (given : List (List ℕ)) (way : Underway) : Type 0 where
  pub past : Past
  pub stands : Stands way.node past.made past.entries
  pub taken : List ℕ
  pub consumed : Consumes before after taken
  pub all : Follows lines_of taken given past way
  pub whole : Follows whole_lines taken given past way
  pub each : length given + 1 ≡ way.number

-- these answers are the first ones
abbrev pub AreFirst : List (List ℕ) → Listed → Type 0
AreFirst given listed = (rest : List (List ℕ)) × (listed.each ≡ given ++ rest)

-- these are all answers, and nothing stops them
abbrev pub AreAll : List (List ℕ) → Listed → Type 0
AreAll given listed = listed ≡ record { each = given; stops = None }

-- these are all answers, up to the line of this number that begins at this place and is none
abbrev pub AreUpTo : ℕ → ℕ → List (List ℕ) → Listed → Type 0
AreUpTo number at given listed = listed ≡ record { each = given; stops = Some (number, at) }

-- what the end of the reading says of the script, of the bytes that were read, and of what is left, where these answers
-- were given
abbrev pub EndsWith : List ℕ → List ℕ → Option (List ℕ) → List (List ℕ) → ReplayEnd → Type 0
EndsWith script bytes left given replay_end.Done = IsAtEnd left × AreAll given (listed_of (lines_of script))
    × AreAll given (listed_of (whole_lines bytes))
EndsWith script bytes left given (replay_end.NotALine number at) = AreUpTo number at given (listed_of (lines_of script))
    × (AreUpTo number at given (listed_of (whole_lines bytes)) ⊎ IsAtEnd left)
EndsWith script bytes left given replay_end.ReadFault = AreFirst given (listed_of (lines_of script))
    × AreAll given (listed_of (whole_lines bytes))
EndsWith script bytes left given replay_end.WriteFault = ⊥
EndsWith script bytes left given replay_end.Memory = AreFirst given (listed_of (lines_of script))

-- the same of the script that the input tells, and of the bytes that were taken from it
pub record Ended (before after : Option (List ℕ)) (given : List (List ℕ)) (end : ReplayEnd) : Type 0 where
  pub script : List ℕ
  pub told : IsTold before script
  pub bytes : List ℕ
  pub consumed : Consumes before after bytes
  pub at : EndsWith script bytes after given end

-- the next answer was given too, or the reading ended
abbrev pub RunsOn : Option (List ℕ) → Option (List ℕ) → List (List ℕ) → Underway → Result (Unit {0}) ReplayEnd → Type 0
RunsOn before after given way (Ok done) = Running before after (given ++ way.answer ∷ []) way
RunsOn before after given way (Err end) = Ended before after given end
