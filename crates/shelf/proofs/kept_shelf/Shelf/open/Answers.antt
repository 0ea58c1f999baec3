use Rattle.std.proofs.Common.{ap, ◌∙◌, arith, length-append}
use Rattle.epochs.specs.EpochsList.{past}
use Rattle.shelf.proofs.OpenLemmas.{none_named, rising_push, up_to_push}
use Rattle.shelf.proofs.StaleLemmas.{begun_push, needed_push}
use Rattle.shelf.proofs.kept_shelf.Shelf.open.Goals as goal

pub push-requires-clause-absent : goal.push-requires-clause-absent
push-requires-clause-absent c = rw c.in_ok-reserve.ensures.places (none_named _ _ _ _ c.self.invariant.numbered (omega arith))

pub invariant_of-self-2 : goal.invariant_of-self-2
invariant_of-self-2 c =
    let i = c.self.inside in
    let v = c.self.invariant in
    let few = v.room in
    let newest = i.epochs.known.newest in
    let at = c.newest-begun.ensures.newest in record {
      room = rw (c.push.ensures.after, c.in_ok-reserve.ensures.places, c.in_ok-reserve_fill.ensures.more, length-append) (omega (arith, few));
      numbered = rw (c.push.ensures.after, c.in_ok-reserve.ensures.places) (up_to_push _ _ _ _ v.numbered (omega arith) (omega arith));
      rising = rw (c.push.ensures.after, c.in_ok-reserve.ensures.places) (rising_push _ _ _ _ v.rising v.numbered (omega arith) (omega arith));
      begun = rw (c.push.ensures.after, c.in_ok-reserve.ensures.places) (begun_push 0 newest i.flights.items _ v.begun at);
      up_to = rw c.in_ok-reserve_fill.ensures.more v.up_to;
      aim = v.aim;
      tried = rw c.in_ok-reserve_fill.ensures.more v.tried;
      settled = rw (c.push.ensures.after, c.in_ok-reserve.ensures.places, c.in_ok-reserve_fill.ensures.more)
          (ap (λ n. past n i.epochs.known.starts) (needed_push newest i.noted i.table.objects i.flights.items _ at) ∙ v.settled);
    }
