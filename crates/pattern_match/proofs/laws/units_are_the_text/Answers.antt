use Rattle.pattern_match.proofs.UnitLemmas.{joined-units}
use Rattle.pattern_match.proofs.laws.units_are_the_text.Goals as goal

pub returns : goal.returns
returns c = joined-units
