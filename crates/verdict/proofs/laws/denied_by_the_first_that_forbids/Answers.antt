use Rattle.verdict.proofs.VerdictLemmas.{denied_by_first}
use Rattle.verdict.proofs.laws.denied_by_the_first_that_forbids.Goals as goal

pub returns : goal.returns
returns c = denied_by_first
