use Rattle.pattern_match.proofs.LawLemmas.{any_at_end}
use Rattle.pattern_match.proofs.laws.any_takes_the_rest.Goals as goal

pub returns : goal.returns
returns c = any_at_end
