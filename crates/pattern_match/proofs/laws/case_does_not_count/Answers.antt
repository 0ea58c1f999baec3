use Rattle.pattern_match.proofs.CaseLemmas.{case_free}
use Rattle.pattern_match.proofs.laws.case_does_not_count.Goals as goal

pub returns : goal.returns
returns c = case_free
