-- Scripts as lines of the grammar.
use Rattle.std.specs.Prelude.{◌≡◌, ℕ, ◌<◌, ◌≤◌, ◌==◌, Bool, true, false, not, IsTrue, List, [], ◌∷◌, ◌++◌, length}
use Rattle.std.specs.List.{list_all, flat_map}
use Rattle.script_line.specs.Line.{Said, Sets, Calls, Refuses}
use Rattle.script_line.specs.Grammar.{Says}
use Rattle.script_line.specs.declared.answer.TheConstants.{LINE_FEED}

-- only the first line may set the limits
abbrev pub MayStand : Bool → Said → Type 0
MayStand first (Sets limits) = first ≡ true
MayStand first (Calls scripted) = Unit {0}
MayStand first (Refuses fault) = Unit {0}

-- no byte is this one
abbrev pub LacksByte : ℕ → List ℕ → Type 0
LacksByte byte text = IsTrue (list_all (λ other. not (other == byte)) text)

-- a line of the grammar, without its line feed, which is the first one or not
pub record IsScriptLine (first : Bool) (line : List ℕ) : Type 0 where
  pub said : Said
  pub says : Says line said
  pub stands : MayStand first said
  pub clean : LacksByte LINE_FEED line
  pub short : length line < 512

-- each is a line of the grammar
abbrev pub AreScriptLines : Bool → List (List ℕ) → Type 0
AreScriptLines first [] = Unit {0}
AreScriptLines first (line ∷ lines) = IsScriptLine first line × AreScriptLines false lines

-- a line with its line feed
abbrev pub with_feed : List ℕ → List ℕ
with_feed line = line ++ LINE_FEED ∷ []

-- at most so many lines of the grammar, each with its line feed
pub record IsScript (most : ℕ) (text : List ℕ) : Type 0 where
  pub lines : List (List ℕ)
  pub each : AreScriptLines true lines
  pub few : length lines ≤ most
  pub whole : text ≡ flat_map with_feed lines
