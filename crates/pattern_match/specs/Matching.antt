-- Which texts a pattern matches (RFC 8006, section 4.1.5, PatternMatch).
use Rattle.std.specs.List.{flat_map}
use Rattle.std.specs.Prelude.{◌≡◌, ◌≢◌, ℕ, Bool, true, false, ◌||◌, ◌&&◌, not, List, [], ◌∷◌, ◌++◌}
use Rattle.pattern_match.specs.declared.units.TextUnit.{TextUnit}
use Rattle.pattern_match.specs.declared.units.TextUnit.TheVariants.{Byte}
use Rattle.pattern_match.specs.declared.tokens.Token.{Token}
use Rattle.pattern_match.specs.declared.tokens.Token.TheVariants.{Any, One, Literal}
use Rattle.pattern_match.specs.Units.{units, compared, unit_eq}
use Rattle.pattern_match.specs.Tokens.{tokens_of}

-- a pattern as it is kept: its tokens, and whether the case of letters counts
pub record Compiled : Type 0 where
  pub tokens : List Token
  pub case_sensitive : Bool

-- the pattern of a text and its flag `case-sensitive`
abbrev pub compiled : List ℕ → Bool → Compiled
compiled text case_sensitive = record { tokens = tokens_of text; case_sensitive = case_sensitive }

-- These tokens match these units. No tokens match no units; Any before the rest matches where the rest matches
-- some suffix; One matches a unit other than '/'; a literal matches the equal unit.
abbrev pub TokensMatch : Bool → List Token → List TextUnit → Type 0
TokensMatch case_sensitive [] us = us ≡ []
TokensMatch case_sensitive (Any ∷ tokens) us =
    (front : List TextUnit) × (rest : List TextUnit) × (us ≡ front ++ rest) × TokensMatch case_sensitive tokens rest
TokensMatch case_sensitive (One ∷ tokens) us =
    (u : TextUnit) × (rest : List TextUnit) × (us ≡ u ∷ rest) × (u ≢ Byte 47) × TokensMatch case_sensitive tokens rest
TokensMatch case_sensitive (Literal literal ∷ tokens) us =
    (u : TextUnit) × (rest : List TextUnit) × (us ≡ u ∷ rest) ×
    (compared case_sensitive u ≡ compared case_sensitive literal) × TokensMatch case_sensitive tokens rest

-- the pattern matches the text
abbrev pub Matches : Compiled → List ℕ → Type 0
Matches pattern text = TokensMatch pattern.case_sensitive pattern.tokens (units text)

-- the test holds of the list or of a suffix of it
unfoldable pub some_suffix : (List TextUnit → Bool) → List TextUnit → Bool
some_suffix test [] = test []
some_suffix test (u ∷ us) = test (u ∷ us) || some_suffix test us

-- the test holds of the first unit, and the other one of the units after it
abbrev pub first_and_rest : (TextUnit → Bool) → (List TextUnit → Bool) → List TextUnit → Bool
first_and_rest test rest [] = false
first_and_rest test rest (u ∷ us) = test u && rest us

-- a token other than Any takes this unit
abbrev pub takes : Bool → Token → TextUnit → Bool
takes case_sensitive Any u = false
takes case_sensitive One u = not (unit_eq u (Byte 47))
takes case_sensitive (Literal literal) u = unit_eq (compared case_sensitive u) (compared case_sensitive literal)

-- the same as a test that computes
unfoldable pub tokens_match : Bool → List Token → List TextUnit → Bool
tokens_match case_sensitive [] [] = true
tokens_match case_sensitive [] (u ∷ us) = false
tokens_match case_sensitive (Any ∷ tokens) us = some_suffix (tokens_match case_sensitive tokens) us
tokens_match case_sensitive (One ∷ tokens) us =
    first_and_rest (takes case_sensitive One) (tokens_match case_sensitive tokens) us
tokens_match case_sensitive (Literal literal ∷ tokens) us =
    first_and_rest (takes case_sensitive (Literal literal)) (tokens_match case_sensitive tokens) us

-- the pattern matches the text, as a test that computes
abbrev pub is_match : Compiled → List ℕ → Bool
is_match pattern text = tokens_match pattern.case_sensitive pattern.tokens (units text)

-- one token matches this part of the units
abbrev pub TokenMatches : Bool → Token → List TextUnit → Type 0
TokenMatches case_sensitive Any part = Unit {0}
TokenMatches case_sensitive One part = (u : TextUnit) × (part ≡ u ∷ []) × (u ≢ Byte 47)
TokenMatches case_sensitive (Literal literal) part =
    (u : TextUnit) × (part ≡ u ∷ []) × (compared case_sensitive u ≡ compared case_sensitive literal)

-- each token matches the part in its place
abbrev pub EachMatches : Bool → List Token → List (List TextUnit) → Type 0
EachMatches case_sensitive [] [] = Unit {0}
EachMatches case_sensitive [] (part ∷ parts) = ⊥
EachMatches case_sensitive (token ∷ tokens) [] = ⊥
EachMatches case_sensitive (token ∷ tokens) (part ∷ parts) =
    TokenMatches case_sensitive token part × EachMatches case_sensitive tokens parts

-- the units are a concatenation of parts that the tokens match, in their order
abbrev pub IsConcatenation : Bool → List Token → List TextUnit → Type 0
IsConcatenation case_sensitive tokens us =
    (parts : List (List TextUnit)) × (us ≡ flat_map (λ part. part) parts) × EachMatches case_sensitive tokens parts
