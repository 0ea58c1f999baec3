use Rattle.pattern_match.proofs.LawLemmas.{concatenation_iff}
use Rattle.pattern_match.proofs.laws.matching_is_concatenation.Goals as goal

pub returns : goal.returns
returns c = concatenation_iff
