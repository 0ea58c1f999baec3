use Rattle.std.proofs.Common.{arith}
use Rattle.shelf.proofs.OpenLemmas.{none_named, up_to_push}
use Rattle.delivery_core.proofs.RefreshLemmas.{between_push}
use Rattle.delivery_core.proofs.refreshes.Refreshes.begin.Goals as goal

pub push-requires-clause-absent : goal.push-requires-clause-absent
push-requires-clause-absent c = rw c.in_ok-reserve.ensures.places (none_named _ _ _ _ c.self.invariant.1 (omega arith))

pub invariant_of-self-2 : goal.invariant_of-self-2
invariant_of-self-2 c =
    let i = c.self.invariant in (
      rw (c.push.ensures.after, c.in_ok-reserve.ensures.places) (between_push _ _ _ _ i.0 (omega (arith, c.stored.ensures))),
      rw (c.push.ensures.after, c.in_ok-reserve.ensures.places) (up_to_push _ _ _ _ i.1 (omega arith) (omega arith)),
      i.2,
    )
