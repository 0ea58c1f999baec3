use Rattle.epochs.proofs.ChainLemmas.{IsFollowed, next_rank}
use Rattle.epochs.proofs.chains.Chains.has_url_since.Given as goal

abbrev pub invariant-places : goal.invariant-places
invariant-places l = IsFollowed l.self l.newest l.begun l.key l.next

abbrev pub decreases-places : goal.decreases-places
decreases-places l = next_rank l.next
