use Rattle.std.proofs.Common.{ap, arith, length-append}
use Rattle.shelf.proofs.OpenLemmas.{none_named, up_to_push}
use Rattle.delivery_core.proofs.records.Records.begin.Goals as goal

pub push-requires-clause-absent : goal.push-requires-clause-absent
push-requires-clause-absent c = none_named _ _ _ _ c.self.invariant.1 (omega arith)

pub invariant_of-self : goal.invariant_of-self
invariant_of-self c =
    let i = c.self.invariant in
    let room = i.0 in
    let few = i.2 in
    let spare = c.requires.spare in (
      rw (c.push.ensures.after, length-append) (omega (arith, room, spare, ap (λ r. r.spare) c.self.view_is)),
      rw c.push.ensures.after (up_to_push _ _ _ _ i.1 (omega arith) (omega arith)),
      rw (c.push.ensures.after, length-append) (omega arith),
      i.3,
    )
