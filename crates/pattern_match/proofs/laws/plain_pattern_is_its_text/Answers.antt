use Rattle.pattern_match.proofs.LawLemmas.{plain_matches, plain_matches_no_other}
use Rattle.pattern_match.proofs.laws.plain_pattern_is_its_text.Goals as goal

pub returns-clause-own : goal.returns-clause-own
returns-clause-own c = plain_matches

pub returns-clause-no_other : goal.returns-clause-no_other
returns-clause-no_other c = plain_matches_no_other
