use Rattle.pattern_match.proofs.LawLemmas.{star_matches}
use Rattle.pattern_match.proofs.laws.star_matches_every_text.Goals as goal

pub returns : goal.returns
returns c = star_matches
