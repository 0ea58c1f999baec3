use Rattle.std.proofs.Common.{ap, arith, length-append}
use Rattle.shelf.proofs.ListLemmas.{taken_length}
use Rattle.shelf.proofs.OpenLemmas.{up_to_filter}
use Rattle.delivery_core.proofs.records.Records.finish.Goals as goal

pub invariant_of-self : goal.invariant_of-self
invariant_of-self c =
    let i = c.self.invariant in
    let room = i.0 in
    let few = i.2 in
    let kept = i.3 in
    let fewer = taken_length c.in-Some.open c.self.inside.deliveries.items c.take.new.self.items c.in-Some.ensures.one in
    let spare = ap (λ r. r.spare) c.take.ensures.after in (
      rw c.push_reserved.ensures (omega (arith, room, fewer, spare)),
      rw c.take.ensures.after (up_to_filter _ _ _ i.1),
      omega (arith, few, fewer),
      rw (c.push_reserved.ensures, length-append) (omega (arith, kept)),
    )
