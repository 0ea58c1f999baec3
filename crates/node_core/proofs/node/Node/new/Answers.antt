use Rattle.std.proofs.Common.{ap, arith}
use Rattle.history.specs.declared.heading.Heading.{Heading}
use Rattle.node_core.proofs.EndLemmas.{same_ok}
use Rattle.node_core.proofs.NeededLemmas.{nothing_stored}
use Rattle.node_core.proofs.NodeLemmas.{none_open, heading_at_start}
use Rattle.node_core.proofs.node.Node.new.Goals as goal

pub invariant_of-result : goal.invariant_of-result
invariant_of-result c = (none_open _ _ c.in_ok-new.ensures.follows, omega arith, omega arith)

pub returns-clause-made : goal.returns-clause-made
returns-clause-made c = ap (λ (o : Heading). record { limits = c.args.limits.now; heading = o }) (heading_at_start _ _ c.in_ok-new.ensures.follows)

pub returns-clause-stands : goal.returns-clause-stands
returns-clause-stands c = nothing_stored _ _ _ _ (same_ok c.in_ok-new-2.ensures) c.in_ok-new.ensures.follows
