-- What the walk over a text does next.
use Rattle.std.specs.Prelude.{ℕ, ◌<◌, Bool, Option, Some, None, if◌then◌else◌}
use Rattle.pattern_match.specs.declared.units.TextUnit.{TextUnit}
use Rattle.pattern_match.specs.declared.tokens.Token.{Token}
use Rattle.pattern_match.specs.declared.tokens.Token.TheVariants.{Any, One, Literal}
use Rattle.pattern_match.specs.declared.walk.Step.{Step}
use Rattle.pattern_match.specs.declared.walk.Step.TheVariants.{Remember, Take, Fail}
use Rattle.pattern_match.specs.Matching.{takes}

-- the step at the next token, if there is one, and the next unit
abbrev pub step_of : Bool → Option Token → TextUnit → Step
step_of case_sensitive None u = Fail
step_of case_sensitive (Some Any) u = Remember
step_of case_sensitive (Some One) u = if takes case_sensitive One u then Take else Fail
step_of case_sensitive (Some (Literal literal)) u = if takes case_sensitive (Literal literal) u then Take else Fail

-- unless it fails, there is a token
abbrev pub HasToken : Step → ℕ → ℕ → Type 0
HasToken Remember next count = next < count
HasToken Take next count = next < count
HasToken Fail next count = Unit {0}
