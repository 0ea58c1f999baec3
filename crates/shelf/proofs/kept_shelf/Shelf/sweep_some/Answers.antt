use Rattle.std.proofs.Common.{arith, map, subst}
use Rattle.shelf.proofs.HeldLemmas.{part_same}
use Rattle.shelf.proofs.StaleLemmas.{past_twice}
use Rattle.shelf.proofs.kept_shelf.Shelf.sweep_some.Goals as goal
use Rattle.shelf.specs.KeptShelf.{IsPartOf, ShelfView, kept_object, least_needed}

pub invariant_of-self : goal.invariant_of-self
invariant_of-self c =
    let i = c.self.inside in
    let v = c.self.invariant in
    let e = c.sweep_portion.ensures in
    let aim = e.aim in
    let same = c.settle.ensures.newest in record {
      room = rw c.sweep_portion.ensures.spare v.room;
      numbered = v.numbered;
      rising = v.rising;
      begun = rw c.settle.ensures.newest v.begun;
      up_to = rw c.settle.ensures.newest (e.up_to i.epochs.known.newest v.up_to);
      aim = (aim.0, omega (arith, aim.1, same));
      tried = c.settle.ensures.tried c.sweep_portion.new.aimed aim.0 e.tried;
      settled = rw (c.settle.ensures.newest, c.settle.ensures.starts) (past_twice (least_needed i.epochs.known.newest c.sweep_portion.new.noted c.sweep_portion.new.table.objects i.flights.items) i.epochs.known.starts);
    }

pub returns-then-self-newest-clause-held : goal.returns-then-self-newest-clause-held
returns-then-self-newest-clause-held c =
    subst (λ (s : ShelfView). IsPartOf (map kept_object c.sweep_portion.new.table.objects) s.held) c.self.view_is c.sweep_portion.ensures.held

pub returns-else-self-newest-clause-held : goal.returns-else-self-newest-clause-held
returns-else-self-newest-clause-held c = part_same _
