use Rattle.std.proofs.Common.{map, ap, ◌∙◌}
use Rattle.epochs.specs.EpochsList.{past}
use Rattle.object_cache.specs.ObjectTable as objects
use Rattle.shelf.proofs.ShelfLemmas.{shelf}
use Rattle.shelf.proofs.StaleLemmas.{kept_moved, needed_moved, up_moved}
use Rattle.shelf.proofs.TriedLemmas.{tried_passed}
use Rattle.shelf.proofs.kept_shelf.Shelf.touch.Goals as goal
use Rattle.rows.specs.Row.{moved}
use Rattle.shelf.proofs.HeldLemmas.{part_moved}
use Rattle.shelf.specs.KeptShelf.{flight_of, kept_object}

pub invariant_of-self : goal.invariant_of-self
invariant_of-self c =
    let i = c.self.inside in
    let v = c.self.invariant in
    let test = objects.is_of c.args.key.now in
    let newest = i.epochs.known.newest in record {
      room = rw c.touch.ensures.after v.room;
      numbered = v.numbered;
      rising = v.rising;
      begun = v.begun;
      up_to = rw c.touch.ensures.after (up_moved newest test i.table.objects v.up_to);
      aim = v.aim;
      tried = tried_passed i.epochs.known.starts i.noted i.aimed i.table c.touch.new.self c.touch.ensures.passed v.tried;
      settled = rw c.touch.ensures.after (ap (λ n. past n i.epochs.known.starts) (needed_moved newest i.noted test i.table.objects i.flights.items) ∙ v.settled);
    }

pub returns-clause-after : goal.returns-clause-after
returns-clause-after c =
    let i = c.self.inside in
    let starts = i.epochs.known.starts in
    rw (← c.self.view_is, c.touch.ensures.after) (ap (λ kept. shelf i.table.limit kept (map kept_object (moved (objects.is_of c.args.key.now) i.table.objects)) (map (flight_of starts) i.flights.items) i.fetched i.epochs.known.newest)
    (kept_moved starts i.noted c.args.key.now i.table.objects c.touch.ensures.apart))

pub returns-clause-held : goal.returns-clause-held
returns-clause-held c = rw (← c.self.view_is, c.touch.ensures.after) (part_moved (objects.is_of c.args.key.now) c.self.inside.table.objects)
