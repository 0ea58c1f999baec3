use Rattle.pattern_match.specs.Units.{units}
use Rattle.pattern_match.proofs.MatchLemmas.{TokensMatch_iff}
use Rattle.pattern_match.proofs.laws.test_is_relation.Goals as goal

pub returns : goal.returns
returns c pattern text = TokensMatch_iff pattern.case_sensitive pattern.tokens (units text)
