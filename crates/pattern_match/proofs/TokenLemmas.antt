-- The tokens of units, one step at a time.
use Rattle.std.proofs.Common.{◌≡◌, ℕ, ◌≤◌, true, false, length, drop, List, [], ◌∷◌, refl, ap, sym, ◌∙◌}
use Rattle.std.proofs.lemmas.Bool.{cond-true, cond-false}
use Rattle.std.proofs.lemmas.List.{drop_all}
use Rattle.pattern_match.specs.declared.units.TextUnit.{TextUnit}
use Rattle.pattern_match.specs.declared.tokens.Token.TheVariants.{Literal}
use Rattle.pattern_match.specs.Units.{units}
use Rattle.pattern_match.specs.Tokens.{is_escape, token_of, tokens_from}

pub tokens_from-escape : (u v : TextUnit) (us : List TextUnit) → is_escape u v ≡ true → tokens_from (u ∷ v ∷ us) ≡ Literal v ∷ tokens_from us
unfolding tokens_from
tokens_from-escape u v us e = cond-true (is_escape u v) _ _ e

pub tokens_from-plain : (u v : TextUnit) (us : List TextUnit) → is_escape u v ≡ false → tokens_from (u ∷ v ∷ us) ≡ token_of u ∷ tokens_from (v ∷ us)
unfolding tokens_from
tokens_from-plain u v us e = cond-false (is_escape u v) _ _ e

pub tokens_from-last : (u : TextUnit) → tokens_from (u ∷ []) ≡ token_of u ∷ tokens_from []
unfolding tokens_from
tokens_from-last u = refl

-- past the end of a text there are no units
pub units-past : (text : List ℕ) (at : ℕ) → length text ≤ at → units (drop at text) ≡ []
unfolding units
units-past text at h = rw (drop_all at text h)

-- past the end of a text there are no tokens
pub tokens-past : (text : List ℕ) (at : ℕ) → length text ≤ at → tokens_from (units (drop at text)) ≡ []
unfolding tokens_from
tokens-past text at h = rw (units-past text at h)

-- the first token of a text, of its first two units
pub first-escape : (text : List ℕ) (at next after : ℕ) (u v : TextUnit) → units (drop at text) ≡ u ∷ units (drop next text) → units (drop next text) ≡ v ∷ units (drop after text) → is_escape u v ≡ true → tokens_from (units (drop at text)) ≡ Literal v ∷ tokens_from (units (drop after text))
first-escape text at next after u v first second escape =
    ap tokens_from (first ∙ ap (λ (us : List TextUnit). u ∷ us) second) ∙ tokens_from-escape u v (units (drop after text)) escape

pub first-plain : (text : List ℕ) (at next after : ℕ) (u v : TextUnit) → units (drop at text) ≡ u ∷ units (drop next text) → units (drop next text) ≡ v ∷ units (drop after text) → is_escape u v ≡ false → tokens_from (units (drop at text)) ≡ token_of u ∷ tokens_from (units (drop next text))
first-plain text at next after u v first second escape =
    ap tokens_from (first ∙ ap (λ (us : List TextUnit). u ∷ us) second) ∙ tokens_from-plain u v (units (drop after text)) escape ∙ ap (λ (us : List TextUnit). token_of u ∷ tokens_from us) (sym second)

pub first-last : (text : List ℕ) (at next : ℕ) (u : TextUnit) → units (drop at text) ≡ u ∷ units (drop next text) → length text ≤ next → tokens_from (units (drop at text)) ≡ token_of u ∷ tokens_from (units (drop next text))
first-last text at next u first past =
    ap tokens_from (first ∙ ap (λ (us : List TextUnit). u ∷ us) (units-past text next past)) ∙ tokens_from-last u ∙ ap (λ (us : List TextUnit). token_of u ∷ tokens_from us) (sym (units-past text next past))
