use Rattle.std.proofs.Common.{◌≡◌, sym, ◌∙◌, ap, Some, length, arith}
use Rattle.std.proofs.lemmas.Bool.{false≢true, eqb-false}
use Rattle.std.proofs.lemmas.List.{take_rest}
use Rattle.pattern_match.specs.declared.tokens.Token.TheVariants.{Any}
use Rattle.pattern_match.proofs.MatchLemmas.{any_later}
use Rattle.pattern_match.proofs.plain.+tokens_match.Goals as goal
use Rattle.pattern_match.proofs.plain.+tokens_match.Goals.{in-Any, in_default-matches}

pub returns-then-not-is_empty : goal.returns-then-not-is_empty
returns-then-not-is_empty t c =
    let any : c.in-Some.token.now ≡ Any = elim c.match-matches.branch [ in-Any w ↦ w.in-Any.is | in_default-matches w ↦ absurd (false≢true (sym w.matches-is ∙ c.if-matches.true)) ] in
    let some = eqb-false (length c.args.units.now) 0 (sym c.is_empty-else-tokens_match.ensures ∙ c.if-not-is_empty.true) in
    let rest = rw take_rest at c.tokens_match.ensures in
    let after = rw take_rest at c.tokens_match-then-not-is_empty.ensures in
    let later = any_later c.args.case_sensitive c.args.tokens.now c.args.units.now (ap Some (sym any) ∙ c.in-Some.ensures.value) (omega (arith, some)) (λ h. false≢true (sym c.if-tokens_match.false ∙ rest.1 h)) in
    (λ h. later.0 (after.0 h), λ h. after.1 (later.1 h))
