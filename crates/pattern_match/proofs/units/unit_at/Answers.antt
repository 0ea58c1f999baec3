use Rattle.std.proofs.Common.{sym, ◌∙◌}
use Rattle.pattern_match.proofs.UnitLemmas.{units_at-encoded, units_at-byte}
use Rattle.pattern_match.proofs.units.unit_at.Goals as goal

pub returns-then-is_encoded_at-clause-first : goal.returns-then-is_encoded_at-clause-first
returns-then-is_encoded_at-clause-first c =
    units_at-encoded c.args.text.now c.args.at (sym c.is_encoded_at.ensures ∙ c.if-is_encoded_at.true)

pub returns-else-is_encoded_at-clause-first : goal.returns-else-is_encoded_at-clause-first
returns-else-is_encoded_at-clause-first c =
    units_at-byte c.args.text.now c.args.at c.requires (sym c.is_encoded_at.ensures ∙ c.if-is_encoded_at.false)
