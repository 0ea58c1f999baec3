-- What the laws say, proved.
use Rattle.std.proofs.Common.{◌≡◌, ◌↔◌, ℕ, Bool, true, false, ◌==◌, ◌||◌, List, [], ◌∷◌, ◌++◌, map, refl, ap, sym, subst, ◌∙◌, append_assoc, append-nil, if◌then◌else◌}
use Rattle.std.specs.Prelude.{codes}
use Rattle.std.specs.List.{list_any, flat_map}
use Rattle.std.proofs.lemmas.Bool.{and_left, or_parts, or_from, cond_both, cond-false}
use Rattle.pattern_match.specs.declared.units.TextUnit.{TextUnit}
use Rattle.pattern_match.specs.declared.units.TextUnit.TheVariants.{Byte, Encoded}
use Rattle.pattern_match.specs.declared.tokens.Token.{Token}
use Rattle.pattern_match.specs.declared.tokens.Token.TheVariants.{Any, One, Literal}
use Rattle.pattern_match.specs.Units.{units, joined, is_encoded}
use Rattle.pattern_match.specs.Tokens.{is_special, is_escape, token_of, tokens_from, IsPlain}
use Rattle.pattern_match.specs.Matching.{compiled, TokensMatch, Matches, EachMatches, IsConcatenation}
use Rattle.pattern_match.proofs.UnitLemmas.{joined-units}
use Rattle.pattern_match.proofs.TokenLemmas.{tokens_from-plain}

-- `*` alone
pub star_matches : (text : List ℕ) (case_sensitive : Bool) → Matches (compiled (codes "*") case_sensitive) text
unfolding units tokens_from
star_matches text case_sensitive = (units text, [], sym (append-nil (units text)), refl)

-- Any at the end
pub any_at_end : (case_sensitive : Bool) (ts : List Token) (us more : List TextUnit) → TokensMatch case_sensitive ts us → TokensMatch case_sensitive (ts ++ Any ∷ []) (us ++ more)
any_at_end case_sensitive [] us more h = (us ++ more, [], sym (append-nil (us ++ more)), refl)
any_at_end case_sensitive (Any ∷ ts) us more h =
    (h.0, h.1 ++ more, ap (λ (xs : List TextUnit). xs ++ more) h.2 ∙ append_assoc h.0 h.1 more, any_at_end case_sensitive ts h.1 more h.3)
any_at_end case_sensitive (One ∷ ts) us more h =
    (h.0, h.1 ++ more, ap (λ (xs : List TextUnit). xs ++ more) h.2, h.3, any_at_end case_sensitive ts h.1 more h.4)
any_at_end case_sensitive (Literal literal ∷ ts) us more h =
    (h.0, h.1 ++ more, ap (λ (xs : List TextUnit). xs ++ more) h.2, h.3, any_at_end case_sensitive ts h.1 more h.4)

-- the relation and the concatenation
to_parts : (case_sensitive : Bool) (ts : List Token) (us : List TextUnit) → TokensMatch case_sensitive ts us → IsConcatenation case_sensitive ts us
to_parts case_sensitive [] us h = ([], h, tt)
to_parts case_sensitive (Any ∷ ts) us h =
    let rest = to_parts case_sensitive ts h.1 h.3 in
    (h.0 ∷ rest.0, h.2 ∙ ap (λ (xs : List TextUnit). h.0 ++ xs) rest.1, (tt, rest.2))
to_parts case_sensitive (One ∷ ts) us h =
    let rest = to_parts case_sensitive ts h.1 h.4 in
    ((h.0 ∷ []) ∷ rest.0, h.2 ∙ ap (λ (xs : List TextUnit). h.0 ∷ xs) rest.1, ((h.0, refl, h.3), rest.2))
to_parts case_sensitive (Literal literal ∷ ts) us h =
    let rest = to_parts case_sensitive ts h.1 h.4 in
    ((h.0 ∷ []) ∷ rest.0, h.2 ∙ ap (λ (xs : List TextUnit). h.0 ∷ xs) rest.1, ((h.0, refl, h.3), rest.2))

from_parts : (case_sensitive : Bool) (ts : List Token) (parts : List (List TextUnit)) → EachMatches case_sensitive ts parts → TokensMatch case_sensitive ts (flat_map (λ part. part) parts)
from_parts case_sensitive [] [] h = refl
from_parts case_sensitive [] (part ∷ parts) h = absurd h
from_parts case_sensitive (Any ∷ ts) [] h = absurd h
from_parts case_sensitive (One ∷ ts) [] h = absurd h
from_parts case_sensitive (Literal literal ∷ ts) [] h = absurd h
from_parts case_sensitive (Any ∷ ts) (part ∷ parts) h =
    (part, flat_map (λ p. p) parts, refl, from_parts case_sensitive ts parts h.1)
from_parts case_sensitive (One ∷ ts) (part ∷ parts) h =
    (h.0.0, flat_map (λ p. p) parts, ap (λ (xs : List TextUnit). xs ++ flat_map (λ p. p) parts) h.0.1, h.0.2, from_parts case_sensitive ts parts h.1)
from_parts case_sensitive (Literal literal ∷ ts) (part ∷ parts) h =
    (h.0.0, flat_map (λ p. p) parts, ap (λ (xs : List TextUnit). xs ++ flat_map (λ p. p) parts) h.0.1, h.0.2, from_parts case_sensitive ts parts h.1)

pub concatenation_iff : (case_sensitive : Bool) (ts : List Token) (us : List TextUnit) → TokensMatch case_sensitive ts us ↔ IsConcatenation case_sensitive ts us
concatenation_iff case_sensitive ts us =
    (to_parts case_sensitive ts us, λ h. subst (λ (xs : List TextUnit). TokensMatch case_sensitive ts xs) (sym h.1) (from_parts case_sensitive ts h.0 h.2))

-- a unit that is none of the three special characters
abbrev unit_special : TextUnit → Bool
unit_special (Byte b) = is_special b
unit_special (Encoded high low) = false

plain-units : (text : List ℕ) → list_any is_special text ≡ false → list_any unit_special (units text) ≡ false
unfolding units
plain-units [] h = refl
plain-units (b ∷ []) h = h
plain-units (b ∷ d ∷ []) h = h
plain-units (b ∷ high ∷ low ∷ rest) h =
    let parts = or_parts (is_special b) (list_any is_special (high ∷ low ∷ rest)) h in
    let after = or_parts (is_special high) (list_any is_special (low ∷ rest)) parts.1 in
    let last = or_parts (is_special low) (list_any is_special rest) after.1 in
    cond_both (is_encoded b high low) (Encoded high low ∷ units rest) (Byte b ∷ units (high ∷ low ∷ rest)) (λ (us : List TextUnit). list_any unit_special us ≡ false) (λ e. plain-units rest last.1) (λ e. or_from (is_special b) _ parts.0 (plain-units (high ∷ low ∷ rest) parts.1))

plain-token : (u : TextUnit) → unit_special u ≡ false → token_of u ≡ Literal u
plain-token (Byte b) h =
    let parts = or_parts (b == 36) (b == 42 || b == 63) h in
    let rest = or_parts (b == 42) (b == 63) parts.1 in
    cond-false (b == 42) Any (if b == 63 then One else Literal (Byte b)) rest.0 ∙ cond-false (b == 63) One (Literal (Byte b)) rest.1
plain-token (Encoded high low) h = refl

plain-escape : (u v : TextUnit) → unit_special u ≡ false → is_escape u v ≡ false
plain-escape (Byte b) (Byte d) h = and_left (b == 36) (is_special d) (or_parts (b == 36) (b == 42 || b == 63) h).0
plain-escape (Byte b) (Encoded high low) h = refl
plain-escape (Encoded high low) v h = refl

plain-tokens : (us : List TextUnit) → list_any unit_special us ≡ false → tokens_from us ≡ map Literal us
unfolding tokens_from
plain-tokens [] h = refl
plain-tokens (u ∷ []) h = ap (λ (t : Token). t ∷ []) (plain-token u (or_parts (unit_special u) false h).0)
plain-tokens (u ∷ v ∷ us) h =
    let parts = or_parts (unit_special u) (list_any unit_special (v ∷ us)) h in
    tokens_from-plain u v us (plain-escape u v parts.0) ∙ ap (λ (t : Token). t ∷ tokens_from (v ∷ us)) (plain-token u parts.0) ∙ ap (λ (ts : List Token). Literal u ∷ ts) (plain-tokens (v ∷ us) parts.1)

literals_match : (case_sensitive : Bool) (us : List TextUnit) → TokensMatch case_sensitive (map Literal us) us
literals_match case_sensitive [] = refl
literals_match case_sensitive (u ∷ us) = (u, us, refl, refl, literals_match case_sensitive us)

literals_match_no_other : (us vs : List TextUnit) → TokensMatch true (map Literal us) vs → vs ≡ us
literals_match_no_other [] vs h = h
literals_match_no_other (u ∷ us) vs h =
    h.2 ∙ ap (λ (x : TextUnit). x ∷ h.1) h.3 ∙ ap (λ (xs : List TextUnit). u ∷ xs) (literals_match_no_other us h.1 h.4)

pub plain_matches : (text : List ℕ) (case_sensitive : Bool) → IsPlain text → Matches (compiled text case_sensitive) text
plain_matches text case_sensitive plain =
    rw (plain-tokens (units text) (plain-units text plain)) (literals_match case_sensitive (units text))

pub plain_matches_no_other : (text other : List ℕ) → IsPlain text → Matches (compiled text true) other → other ≡ text
plain_matches_no_other text other plain h =
    let literal = rw (plain-tokens (units text) (plain-units text plain)) at h in
    sym (joined-units other) ∙ ap joined (literals_match_no_other (units text) (units other) literal) ∙ joined-units text
