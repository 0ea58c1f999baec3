-- The relation and the test that computes it are the same, and what follows of the relation.
use Rattle.std.proofs.Common.{◌<◌, length, drop, slice_get, Some, ◌≡◌, ◌≢◌, ◌↔◌, ℕ, Bool, true, false, List, [], ◌∷◌, ◌++◌, refl, ap, sym, subst, ◌∙◌, arith, ⊎_elim}
use Rattle.std.proofs.lemmas.Bool.{and_parts, and_from, or_cases, or_right, false≢true, not-true, not_from_false, eqb-true, eq-eqb, false_from_ne_true}
use Rattle.pattern_match.specs.declared.units.TextUnit.{TextUnit}
use Rattle.pattern_match.specs.declared.units.TextUnit.TheVariants.{Byte, Encoded}
use Rattle.pattern_match.specs.declared.tokens.Token.{Token}
use Rattle.pattern_match.specs.declared.tokens.Token.TheVariants.{Any, One, Literal}
use Rattle.pattern_match.specs.Units.{unit_eq}
use Rattle.pattern_match.specs.Matching.{TokensMatch, some_suffix, tokens_match}
use Rattle.pattern_match.proofs.WalkLemmas.{suffix_itself}

pub unit_eq-true : (u v : TextUnit) → unit_eq u v ≡ true → u ≡ v
unit_eq-true (Byte b) (Byte d) h = ap Byte (eqb-true b d h)
unit_eq-true (Encoded high low) (Encoded top bottom) h =
    let parts = and_parts _ _ h in
    ap (λ (x : ℕ). Encoded x low) (eqb-true high top parts.0) ∙ ap (λ (x : ℕ). Encoded top x) (eqb-true low bottom parts.1)
unit_eq-true (Byte b) (Encoded top bottom) h = absurd (false≢true h)
unit_eq-true (Encoded high low) (Byte d) h = absurd (false≢true h)

pub unit_eq_itself : (u : TextUnit) → unit_eq u u ≡ true
unit_eq_itself (Byte b) = eq-eqb b b refl
unit_eq_itself (Encoded high low) = and_from _ _ (eq-eqb high high refl) (eq-eqb low low refl)

pub unit_eq_from : (u v : TextUnit) → u ≡ v → unit_eq u v ≡ true
unit_eq_from u v e = rw e (unit_eq_itself v)

unit_eq-false : (u v : TextUnit) → unit_eq u v ≡ false → u ≢ v
unit_eq-false u v h e = false≢true (sym h ∙ unit_eq_from u v e)

-- a suffix at which the test holds
suffix_found : (test : List TextUnit → Bool) (us : List TextUnit) → some_suffix test us ≡ true → (front : List TextUnit) × (rest : List TextUnit) × (us ≡ front ++ rest) × (test rest ≡ true)
unfolding some_suffix
suffix_found test [] h = ([], [], refl, h)
suffix_found test (u ∷ us) h =
    ⊎_elim (λ here. ([], u ∷ us, refl, here)) (λ later. let found = suffix_found test us later in (u ∷ found.0, found.1, ap (λ (xs : List TextUnit). u ∷ xs) found.2, found.3)) (or_cases (test (u ∷ us)) _ h)

suffix_from : (test : List TextUnit → Bool) (front rest : List TextUnit) → test rest ≡ true → some_suffix test (front ++ rest) ≡ true
unfolding some_suffix
suffix_from test [] rest h = suffix_itself test rest h
suffix_from test (u ∷ front) rest h = or_right (test (u ∷ front ++ rest)) _ (suffix_from test front rest h)

pub TokensMatch-from_test : (case_sensitive : Bool) (ts : List Token) (us : List TextUnit) → tokens_match case_sensitive ts us ≡ true → TokensMatch case_sensitive ts us
unfolding tokens_match
TokensMatch-from_test case_sensitive [] [] h = refl
TokensMatch-from_test case_sensitive [] (u ∷ us) h = absurd (false≢true h)
TokensMatch-from_test case_sensitive (Any ∷ ts) us h =
    let found = suffix_found (tokens_match case_sensitive ts) us h in
    (found.0, found.1, found.2, TokensMatch-from_test case_sensitive ts found.1 found.3)
TokensMatch-from_test case_sensitive (One ∷ ts) [] h = absurd (false≢true h)
TokensMatch-from_test case_sensitive (One ∷ ts) (u ∷ us) h =
    let parts = and_parts _ _ h in
    (u, us, refl, unit_eq-false u (Byte 47) (not-true _ parts.0), TokensMatch-from_test case_sensitive ts us parts.1)
TokensMatch-from_test case_sensitive (Literal literal ∷ ts) [] h = absurd (false≢true h)
TokensMatch-from_test case_sensitive (Literal literal ∷ ts) (u ∷ us) h =
    let parts = and_parts _ _ h in
    (u, us, refl, unit_eq-true _ _ parts.0, TokensMatch-from_test case_sensitive ts us parts.1)

pub TokensMatch-to_test : (case_sensitive : Bool) (ts : List Token) (us : List TextUnit) → TokensMatch case_sensitive ts us → tokens_match case_sensitive ts us ≡ true
unfolding tokens_match
TokensMatch-to_test case_sensitive [] us h = rw h refl
TokensMatch-to_test case_sensitive (Any ∷ ts) us h =
    rw h.2 (suffix_from (tokens_match case_sensitive ts) h.0 h.1 (TokensMatch-to_test case_sensitive ts h.1 h.3))
TokensMatch-to_test case_sensitive (One ∷ ts) us h =
    rw h.2 (and_from _ _ (not_from_false _ (false_from_ne_true _ (λ e. h.3 (unit_eq-true h.0 (Byte 47) e)))) (TokensMatch-to_test case_sensitive ts h.1 h.4))
TokensMatch-to_test case_sensitive (Literal literal ∷ ts) us h =
    rw h.2 (and_from _ _ (unit_eq_from _ _ h.3) (TokensMatch-to_test case_sensitive ts h.1 h.4))

pub TokensMatch_iff : (case_sensitive : Bool) (ts : List Token) (us : List TextUnit) → (tokens_match case_sensitive ts us ≡ true) ↔ TokensMatch case_sensitive ts us
TokensMatch_iff case_sensitive ts us =
    (TokensMatch-from_test case_sensitive ts us, TokensMatch-to_test case_sensitive ts us)

-- where the rest does not match here, an Any takes the first unit
any_takes : (case_sensitive : Bool) (ts : List Token) (u : TextUnit) (us : List TextUnit) (front rest : List TextUnit) → (u ∷ us ≡ front ++ rest) → TokensMatch case_sensitive ts rest → (TokensMatch case_sensitive ts (u ∷ us) → ⊥) → TokensMatch case_sensitive (Any ∷ ts) us
any_takes case_sensitive ts u us [] rest e m nothing =
    absurd (nothing (subst (λ (xs : List TextUnit). TokensMatch case_sensitive ts xs) (sym e) m))
any_takes case_sensitive ts u us (v ∷ front) rest e m nothing =
    let tails : us ≡ front ++ rest = cc in
    (front, rest, tails, m)

pub any_later : (case_sensitive : Bool) (ts : List Token) (us : List TextUnit) → Some Any ≡ slice_get ts 0 → 0 < length us → (TokensMatch case_sensitive (drop 1 ts) us → ⊥) → TokensMatch case_sensitive ts (drop 1 us) ↔ TokensMatch case_sensitive ts us
any_later case_sensitive [] us o n nothing = cc
any_later case_sensitive (t ∷ ts) [] o n nothing = absurd (omega arith)
any_later case_sensitive (Any ∷ ts) (u ∷ us) o n nothing =
    (λ h. (u ∷ h.0, h.1, ap (λ (xs : List TextUnit). u ∷ xs) h.2, h.3), λ h. any_takes case_sensitive ts u us h.0 h.1 h.2 h.3 nothing)
any_later case_sensitive (One ∷ ts) (u ∷ us) o n nothing = cc
any_later case_sensitive (Literal literal ∷ ts) (u ∷ us) o n nothing = cc
