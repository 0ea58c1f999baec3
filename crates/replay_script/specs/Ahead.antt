-- Reading lines through what was read ahead.
use Rattle.std.specs.Prelude.{◌≡◌, ◌≢◌, ℕ, ◌+◌, ◌<◌, ◌≤◌, List, [], ◌∷◌, ◌++◌, length}
use Rattle.std.specs.declared.option.Option.{Option}
use Rattle.std.specs.Io.KnownBytes.{Consumes, Keeps, IsAtEnd}
use Rattle.edge_base.specs.Causes.{Rose}
use Rattle.edge_base.specs.declared.source.Took.{Took}
use Rattle.edge_base.specs.declared.source.Took.TheVariants as took
use Rattle.replay_script.specs.Lines.{NoFeed}
use Rattle.replay_script.specs.declared.ahead.LineRead.{LineRead}
use Rattle.replay_script.specs.declared.ahead.LineRead.TheVariants as line_read
use Rattle.replay_script.specs.declared.ahead.Piece.{Piece}
use Rattle.replay_script.specs.declared.ahead.Piece.TheVariants as piece
use Rattle.script_line.specs.declared.answer.TheConstants.{LINE_FEED}
use Rattle.replay_script.specs.declared.step.TheConstants.{LINE_LIMIT}

-- these bytes were taken off the front of what was read ahead and then of what the source had left
pub record Moves (old new : Option (List ℕ)) (before after bytes : List ℕ) : Type 0 where
  pub taken : List ℕ
  pub consumed : Consumes old new taken
  pub parts : before ++ taken ≡ bytes ++ after

-- there is something ahead, what the source gave behind what was there before; or nothing is ahead, and the source is
-- at its end or failed
abbrev pub Refills : Option (List ℕ) → Option (List ℕ) → List ℕ → List ℕ → Took → Type 0
Refills old new before after (took.Some n) = ((taken : List ℕ) × Consumes old new taken × (after ≡ before ++ taken))
    × (0 < length after)
Refills old new before after took.End = IsAtEnd new × Keeps old new × (before ≡ []) × (after ≡ [])
Refills old new before after took.Failed = Keeps old new × (before ≡ []) × (after ≡ [])

-- the line and its line feed were taken off what was ahead
abbrev pub EndsLine : List ℕ → List ℕ → List ℕ → Type 0
EndsLine before after line = (before ≡ line ++ LINE_FEED ∷ after) × NoFeed line × (length line < LINE_LIMIT)

-- a piece went from what is ahead to the end of the line
pub record Goes (before after line longer piece feed : List ℕ) : Type 0 where
  pub parts : before ≡ piece ++ feed ++ after
  pub grown : longer ≡ line ++ piece
  pub plain : NoFeed piece

-- the bytes begin with a line feed, or there are none
abbrev pub BeginsLine : List ℕ → Type 0
BeginsLine [] = Unit {0}
BeginsLine (byte ∷ bytes) = byte ≡ LINE_FEED

-- the line of these bytes and of what is ahead is not too long, as far as it was read
abbrev pub StaysShort : List ℕ → List ℕ → Type 0
StaysShort line ahead = (front : List ℕ) × (rest : List ℕ) × (ahead ≡ front ++ rest) × NoFeed front
    × BeginsLine rest × (length line + length front < LINE_LIMIT)

abbrev pub TakesPiece : List ℕ → List ℕ → List ℕ → List ℕ → Piece → Type 0
TakesPiece before after line longer piece.Line = ((p : List ℕ) × Goes before after line longer p (LINE_FEED ∷ []))
    × (length longer < LINE_LIMIT)
TakesPiece before after line longer piece.More = ((p : List ℕ) × Goes before after line longer p [])
    × (length line < length longer) × (length longer < LINE_LIMIT)
TakesPiece before after line longer piece.TooLong = ((p : List ℕ) × (before ≡ p ++ after) × NoFeed p
    × (length line + length p ≡ LINE_LIMIT))
TakesPiece before after line longer piece.Memory = (after ≡ before) × StaysShort line before

-- the next line, without its line feed; or what is left, which has none; or 40,000,000 bytes without one, memory or
-- not; a failed read comes where nothing is ahead, and want of memory where the line is not too long
abbrev pub ReadsLine : Option (List ℕ) → Option (List ℕ) → List ℕ → List ℕ → List ℕ → LineRead → Type 0
ReadsLine old new before after line line_read.Line = Moves old new before after (line ++ LINE_FEED ∷ [])
    × NoFeed line × (length line < LINE_LIMIT)
ReadsLine old new before after line line_read.End = Moves old new before after line × NoFeed line
    × (length line < LINE_LIMIT) × IsAtEnd new × (after ≡ [])
ReadsLine old new before after line line_read.TooLong = (bytes : List ℕ) × Moves old new before after bytes
    × NoFeed bytes × (length bytes ≡ LINE_LIMIT)
ReadsLine old new before after line line_read.Failed = (bytes : List ℕ) × Moves old new before after bytes
    × NoFeed bytes × (length bytes < LINE_LIMIT) × (after ≡ [])
ReadsLine old new before after line line_read.Memory = (bytes : List ℕ) × Moves old new before after bytes
    × NoFeed bytes × StaysShort bytes after

-- the count of faults did not fall; it rose where reading failed, and is the same where it did not
pub record HasLineCause (before now : ℕ) (result : LineRead) : Type 0 where
  pub later : before ≤ now
  pub failed : result ≡ line_read.Failed → Rose before now
  pub answered : result ≢ line_read.Failed → now ≡ before
