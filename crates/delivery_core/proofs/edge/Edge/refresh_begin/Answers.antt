use Rattle.std.proofs.Common.{arith, length-append}
use Rattle.delivery_core.proofs.edge.Edge.refresh_begin.Goals as goal

pub invariant_of-self-2 : goal.invariant_of-self-2
invariant_of-self-2 c =
    let i = c.self-2.invariant in
    let few = i.1 in
    (i.0, rw (c.in_ok-refresh.ensures.after, length-append) (omega (arith, few)), rw c.in_ok-refresh.ensures.after i.2)
