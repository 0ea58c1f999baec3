use Rattle.epochs.proofs.ChainLemmas.{chained_nothing, only_none}
use Rattle.epochs.proofs.chains.Chains.new.Goals as goal

pub returns-clause-whole : goal.returns-clause-whole
returns-clause-whole c = rw (c.in_ok-with_capacity.ensures.items, c.in_ok-with_capacity-2.ensures.items)
    (chained_nothing c.in_ok-vec.field-0.items (c.in_ok-vec.ensures.items_if_clones_equal (only_none _ (λ place never. never))))
