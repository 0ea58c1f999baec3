-- The tokens of a pattern (RFC 8006, section 4.1.5): '*' is Any, '?' is One, and '$$', '$*' and '$?' are the plain
-- characters '$', '*' and '?'. All else is cut into units as a text is, and each unit stands for itself.
use Rattle.std.specs.List.{list_any}
use Rattle.std.specs.Prelude.{◌≡◌, ℕ, Bool, ◌==◌, ◌||◌, ◌&&◌, List, [], ◌∷◌, if◌then◌else◌, true, false}
use Rattle.pattern_match.specs.declared.units.TextUnit.{TextUnit}
use Rattle.pattern_match.specs.declared.units.TextUnit.TheVariants.{Byte, Encoded}
use Rattle.pattern_match.specs.declared.tokens.Token.{Token}
use Rattle.pattern_match.specs.declared.tokens.Token.TheVariants.{Any, One, Literal}
use Rattle.pattern_match.specs.Units.{units}

-- '$', '*' or '?'
abbrev pub is_special : ℕ → Bool
is_special b = b == 36 || (b == 42 || b == 63)

-- a '$', and then one of the three characters that it makes plain
abbrev pub is_escape : TextUnit → TextUnit → Bool
is_escape (Byte b) (Byte c) = b == 36 && is_special c
is_escape (Byte b) (Encoded high low) = false
is_escape (Encoded high low) next = false

-- the token of a unit that no '$' makes plain
abbrev pub token_of : TextUnit → Token
token_of (Byte b) = if b == 42 then Any else (if b == 63 then One else Literal (Byte b))
token_of (Encoded high low) = Literal (Encoded high low)

-- the tokens of the units of a pattern, from the left
unfoldable pub tokens_from : List TextUnit → List Token
tokens_from [] = []
tokens_from (u ∷ []) = token_of u ∷ []
tokens_from (u ∷ v ∷ us) = if is_escape u v then Literal v ∷ tokens_from us else token_of u ∷ tokens_from (v ∷ us)

-- the tokens of a pattern's text
abbrev pub tokens_of : List ℕ → List Token
tokens_of text = tokens_from (units text)

-- the token is Any
abbrev pub is_any : Token → Bool
is_any Any = true
is_any One = false
is_any (Literal literal) = false

-- a text without '$', '*' and '?'
abbrev pub IsPlain : List ℕ → Type 0
IsPlain text = list_any is_special text ≡ false
