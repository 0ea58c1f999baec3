use Rattle.listing.proofs.FirstMatchLemmas.{decided_is, is_only_answer}
use Rattle.listing.proofs.laws.first_rule_that_holds_decides.Goals as goal

pub returns : goal.returns
returns g c = λ holds allows rules answer. (decided_is holds allows rules answer, is_only_answer holds allows rules answer)
