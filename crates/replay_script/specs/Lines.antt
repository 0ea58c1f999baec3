-- The lines of a script.
use Rattle.std.specs.Prelude.{ℕ, Bool, true, false, not, List, [], ◌∷◌, length, filter, ◌==◌, ◌||◌, nat_le, IsTrue, if◌then◌else◌}
use Rattle.std.specs.List.{list_all}
use Rattle.script_line.specs.declared.answer.TheConstants.{LINE_FEED}
use Rattle.replay_script.specs.declared.step.TheConstants.{LINE_LIMIT}

-- a line without its line feed, and whether it has one
pub record Line : Type 0 where
  pub body : List ℕ
  pub ended : Bool

-- the byte in front of the first line
abbrev pub on_first : ℕ → List Line → List Line
on_first byte [] = record { body = byte ∷ []; ended = false } ∷ []
on_first byte (line ∷ lines) = record line { body = byte ∷ line.body } ∷ lines

-- the lines of the bytes; the last one may have no line feed
unfoldable pub lines_of : List ℕ → List Line
lines_of [] = []
lines_of (byte ∷ bytes) = if byte == LINE_FEED then record { body = []; ended = true } ∷ lines_of bytes
    else on_first byte (lines_of bytes)

-- a line that has its line feed, or is too long without one
abbrev pub is_whole : Line → Bool
is_whole line = line.ended || nat_le LINE_LIMIT (length line.body)

-- the lines of which nothing is to be read any more
abbrev pub whole_lines : List ℕ → List Line
whole_lines bytes = filter is_whole (lines_of bytes)

-- no byte is a line feed
abbrev pub NoFeed : List ℕ → Type 0
NoFeed bytes = IsTrue (list_all (λ byte. not (byte == LINE_FEED)) bytes)

-- the line that was read last, and what was read behind it
pub record Buffered : Type 0 where
  pub line : List ℕ
  pub ahead : List ℕ
