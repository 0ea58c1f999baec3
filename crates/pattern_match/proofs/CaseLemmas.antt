-- Without the flag the case of ASCII letters does not count.
use Rattle.std.proofs.Common.{◌≡◌, ℕ, ◌+◌, ◌<◌, ◌≤◌, Bool, true, false, not, ◌==◌, ◌||◌, ◌&&◌, List, [], ◌∷◌, map, refl, ap, sym, ◌∙◌, arith, ⊎_elim, inl, inr, ◌⊎◌, if◌then◌else◌, lit<}
use Rattle.std.specs.Char.{is_ascii_hexdigit, to_ascii_lowercase}
use Rattle.std.specs.Str.{str_to_ascii_lowercase}
use Rattle.std.proofs.lemmas.Bool.{cases_lt, cases_Bool, eqb-true}
use Rattle.std.proofs.lemmas.Bool.Decides.{nat_tests}
use Rattle.std.proofs.lemmas.Str.Ascii.{lowercase_is, lowercase-lowercase}
use Rattle.pattern_match.specs.declared.units.TextUnit.{TextUnit}
use Rattle.pattern_match.specs.declared.units.TextUnit.TheVariants.{Byte, Encoded}
use Rattle.pattern_match.specs.declared.tokens.Token.{Token}
use Rattle.pattern_match.specs.declared.tokens.Token.TheVariants.{Any, One, Literal}
use Rattle.pattern_match.specs.Units.{units, is_encoded, lowered, unit_eq}
use Rattle.pattern_match.specs.Tokens.{is_special, is_escape, token_of, tokens_from, tokens_of}
use Rattle.pattern_match.specs.Matching.{compiled, Matches, some_suffix, takes, tokens_match}
use Rattle.pattern_match.proofs.UnitLemmas.{units-encoded, units-three}
use Rattle.pattern_match.proofs.TokenLemmas.{tokens_from-escape, tokens_from-plain}
use Rattle.pattern_match.proofs.WalkLemmas.{same_test}
use Rattle.pattern_match.proofs.MatchLemmas.{TokensMatch-from_test, TokensMatch-to_test}

-- a byte stays, or it is an upper-case letter and becomes the lower-case one
lower_cases : (c : ℕ) → (to_ascii_lowercase c ≡ c) ⊎ ((65 ≤ c) × (c < 91) × (to_ascii_lowercase c ≡ c + 32))
lower_cases c =
    ⊎_elim (λ low. inl ((lowercase_is c).1 low)) (λ letter. ⊎_elim (λ upper. inr (letter, upper, (lowercase_is c).0 (letter, omega arith))) (λ high. inl ((lowercase_is c).2 (omega arith))) (cases_lt c 91)) (cases_lt c 65)

-- a character below the letters
eq-lower : (b k : ℕ) → k < 65 → (to_ascii_lowercase b == k) ≡ (b == k)
eq-lower b k h =
    ⊎_elim (λ stays. ap (λ (x : ℕ). x == k) stays) (λ letter. same_test (to_ascii_lowercase b == k) (b == k) (λ e. let f = eqb-true _ _ e in absurd (omega (arith, letter.0, letter.2, f))) (λ e. let f = eqb-true _ _ e in absurd (omega (arith, letter.0, f)))) (lower_cases b)

hex_letter : (c : ℕ) → 65 ≤ c → c < 91 → is_ascii_hexdigit (c + 32) ≡ is_ascii_hexdigit c
hex_letter c low high = grind (arith, nat_tests)

hex-lower : (c : ℕ) → is_ascii_hexdigit (to_ascii_lowercase c) ≡ is_ascii_hexdigit c
hex-lower c =
    ⊎_elim (λ stays. ap is_ascii_hexdigit stays) (λ letter. ap is_ascii_hexdigit letter.2 ∙ hex_letter c letter.0 letter.1) (lower_cases c)

is_encoded-lower : (b high low : ℕ) → is_encoded (to_ascii_lowercase b) (to_ascii_lowercase high) (to_ascii_lowercase low) ≡ is_encoded b high low
is_encoded-lower b high low =
    ap (λ (x : Bool). x && (is_ascii_hexdigit (to_ascii_lowercase high) && is_ascii_hexdigit (to_ascii_lowercase low))) (eq-lower b 37 (lit< tt)) ∙ ap (λ (x : Bool). (b == 37) && (x && is_ascii_hexdigit (to_ascii_lowercase low))) (hex-lower high) ∙ ap (λ (x : Bool). (b == 37) && (is_ascii_hexdigit high && x)) (hex-lower low)

units-lower : (text : List ℕ) → units (map to_ascii_lowercase text) ≡ map lowered (units text)
unfolding units
units-lower [] = refl
units-lower (b ∷ []) = refl
units-lower (b ∷ d ∷ []) = refl
units-lower (b ∷ high ∷ low ∷ rest) =
    ⊎_elim (λ e. units-encoded _ _ _ (map to_ascii_lowercase rest) (is_encoded-lower b high low ∙ e) ∙ ap (λ (us : List TextUnit). Encoded (to_ascii_lowercase high) (to_ascii_lowercase low) ∷ us) (units-lower rest) ∙ sym (ap (map lowered) (units-encoded b high low rest e))) (λ e. units-three _ _ _ (map to_ascii_lowercase rest) (is_encoded-lower b high low ∙ e) ∙ ap (λ (us : List TextUnit). Byte (to_ascii_lowercase b) ∷ us) (units-lower (high ∷ low ∷ rest)) ∙ sym (ap (map lowered) (units-three b high low rest e))) (cases_Bool (is_encoded b high low))

-- a token with its letter in lower case
abbrev lowered_token : Token → Token
lowered_token Any = Any
lowered_token One = One
lowered_token (Literal literal) = Literal (lowered literal)

lowered_token-if : (any one : Bool) (u : TextUnit) → (if any then Any else (if one then One else Literal (lowered u))) ≡ lowered_token (if any then Any else (if one then One else Literal u))
lowered_token-if true one u = refl
lowered_token-if false true u = refl
lowered_token-if false false u = refl

token_of-lower : (u : TextUnit) → token_of (lowered u) ≡ lowered_token (token_of u)
token_of-lower (Byte b) =
    rw (eq-lower b 42 (lit< tt), eq-lower b 63 (lit< tt)) (lowered_token-if (b == 42) (b == 63) (Byte b))
token_of-lower (Encoded high low) = refl

is_special-lower : (b : ℕ) → is_special (to_ascii_lowercase b) ≡ is_special b
is_special-lower b = rw (eq-lower b 36 (lit< tt), eq-lower b 42 (lit< tt), eq-lower b 63 (lit< tt))

is_escape-lower : (u v : TextUnit) → is_escape (lowered u) (lowered v) ≡ is_escape u v
is_escape-lower (Byte b) (Byte d) = rw (eq-lower b 36 (lit< tt)) (ap (λ (x : Bool). (b == 36) && x) (is_special-lower d))
is_escape-lower (Byte b) (Encoded high low) = refl
is_escape-lower (Encoded high low) v = refl

tokens-lower : (us : List TextUnit) → tokens_from (map lowered us) ≡ map lowered_token (tokens_from us)
unfolding tokens_from
tokens-lower [] = refl
tokens-lower (u ∷ []) = ap (λ (t : Token). t ∷ []) (token_of-lower u)
tokens-lower (u ∷ v ∷ us) =
    ⊎_elim (λ e. tokens_from-escape (lowered u) (lowered v) (map lowered us) (is_escape-lower u v ∙ e) ∙ ap (λ (ts : List Token). Literal (lowered v) ∷ ts) (tokens-lower us) ∙ sym (ap (map lowered_token) (tokens_from-escape u v us e))) (λ e. tokens_from-plain (lowered u) (lowered v) (map lowered us) (is_escape-lower u v ∙ e) ∙ ap (λ (t : Token). t ∷ tokens_from (lowered v ∷ map lowered us)) (token_of-lower u) ∙ ap (λ (ts : List Token). lowered_token (token_of u) ∷ ts) (tokens-lower (v ∷ us)) ∙ sym (ap (map lowered_token) (tokens_from-plain u v us e))) (cases_Bool (is_escape u v))

some_suffix-map : (f : TextUnit → TextUnit) (test other : List TextUnit → Bool) → ((us : List TextUnit) → test (map f us) ≡ other us) → (us : List TextUnit) → some_suffix test (map f us) ≡ some_suffix other us
unfolding some_suffix
some_suffix-map f test other same [] = same []
some_suffix-map f test other same (u ∷ us) =
    ap (λ (x : Bool). x || some_suffix test (map f us)) (same (u ∷ us)) ∙ ap (λ (x : Bool). other (u ∷ us) || x) (some_suffix-map f test other same us)

lowered-lowered : (u : TextUnit) → lowered (lowered u) ≡ lowered u
lowered-lowered (Byte b) = ap Byte (lowercase-lowercase b)
lowered-lowered (Encoded high low) =
    ap (λ (x : ℕ). Encoded x (to_ascii_lowercase (to_ascii_lowercase low))) (lowercase-lowercase high) ∙ ap (λ (x : ℕ). Encoded (to_ascii_lowercase high) x) (lowercase-lowercase low)

slash-lower : (u : TextUnit) → unit_eq (lowered u) (Byte 47) ≡ unit_eq u (Byte 47)
slash-lower (Byte b) = eq-lower b 47 (lit< tt)
slash-lower (Encoded high low) = refl

tokens_match-lower : (ts : List Token) (us : List TextUnit) → tokens_match false (map lowered_token ts) (map lowered us) ≡ tokens_match false ts us
unfolding tokens_match
tokens_match-lower [] [] = refl
tokens_match-lower [] (u ∷ us) = refl
tokens_match-lower (Any ∷ ts) us =
    some_suffix-map lowered (tokens_match false (map lowered_token ts)) (tokens_match false ts) (tokens_match-lower ts) us
tokens_match-lower (One ∷ ts) [] = refl
tokens_match-lower (One ∷ ts) (u ∷ us) =
    ap (λ (x : Bool). not x && tokens_match false (map lowered_token ts) (map lowered us)) (slash-lower u) ∙ ap (λ (x : Bool). takes false One u && x) (tokens_match-lower ts us)
tokens_match-lower (Literal literal ∷ ts) [] = refl
tokens_match-lower (Literal literal ∷ ts) (u ∷ us) =
    ap (λ (x : TextUnit). unit_eq x (lowered (lowered literal)) && tokens_match false (map lowered_token ts) (map lowered us)) (lowered-lowered u) ∙ ap (λ (x : TextUnit). unit_eq (lowered u) x && tokens_match false (map lowered_token ts) (map lowered us)) (lowered-lowered literal) ∙ ap (λ (x : Bool). takes false (Literal literal) u && x) (tokens_match-lower ts us)

is_match-lower : (pattern text : List ℕ) → tokens_match false (tokens_of (map to_ascii_lowercase pattern)) (units (map to_ascii_lowercase text)) ≡ tokens_match false (tokens_of pattern) (units text)
is_match-lower pattern text =
    rw (units-lower pattern, units-lower text, tokens-lower (units pattern)) (tokens_match-lower (tokens_of pattern) (units text))

pub case_free : (pattern other text written : List ℕ) → str_to_ascii_lowercase pattern ≡ str_to_ascii_lowercase other → str_to_ascii_lowercase text ≡ str_to_ascii_lowercase written → Matches (compiled pattern false) text → Matches (compiled other false) written
case_free pattern other text written patterns texts h =
    let here = TokensMatch-to_test false (tokens_of pattern) (units text) h in
    let lower = rw (patterns, texts) at (is_match-lower pattern text ∙ here) in
    TokensMatch-from_test false (tokens_of other) (units written) (sym (is_match-lower other written) ∙ lower)
