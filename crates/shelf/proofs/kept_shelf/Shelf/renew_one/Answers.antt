use Rattle.std.proofs.Common.{◌≡◌, arith, ℕ, List, map, false, is_some, true, subst, sym, ap, ◌∙◌}
use Rattle.std.specs.declared.option.Option.{Option}
use Rattle.cdni_base.specs.Key.{KeyParts}
use Rattle.epochs.specs.EpochsList.{is_stale, past}
use Rattle.history.specs.Kept.{kept_of}
use Rattle.object_cache.specs.ObjectTable as objects
use Rattle.shelf.proofs.ShelfLemmas.{shelf}
use Rattle.shelf.proofs.StaleLemmas.{kept_moved, kept_renewed, needed_moved, needed_renewed, up_moved, up_renewed}
use Rattle.shelf.proofs.TriedLemmas.{tried_passed}
use Rattle.shelf.proofs.kept_shelf.Shelf.renew_one.Goals as goal
use Rattle.rows.specs.Row.{moved}
use Rattle.shelf.proofs.HeldLemmas.{part_moved, part_renewed, part_same}
use Rattle.shelf.specs.KeptShelf.{ShelfView, flight_of, kept_in, kept_object}

pub invariant_of-self : goal.invariant_of-self
invariant_of-self c =
    let i = c.self.inside in
    let v = c.self.invariant in
    let test = objects.is_of c.args.key.now in
    let newest = i.epochs.known.newest in record {
      room = rw c.touch.ensures.after v.room;
      numbered = v.numbered;
      rising = v.rising;
      begun = v.begun;
      up_to = rw c.touch.ensures.after (up_moved newest test i.table.objects v.up_to);
      aim = v.aim;
      tried = tried_passed i.epochs.known.starts i.noted i.aimed i.table c.touch.new.self c.touch.ensures.passed v.tried;
      settled = rw c.touch.ensures.after (ap (λ n. past n i.epochs.known.starts) (needed_moved newest i.noted test i.table.objects i.flights.items) ∙ v.settled);
    }

pub returns-then-is_tried-clause-after : goal.returns-then-is_tried-clause-after
returns-then-is_tried-clause-after c =
    let i = c.self.inside in
    let starts = i.epochs.known.starts in
    rw (← c.self.view_is, c.touch.ensures.after) (ap (λ kept. shelf i.table.limit kept (map kept_object (moved (objects.is_of c.args.key.now) i.table.objects)) (map (flight_of starts) i.flights.items) i.fetched i.epochs.known.newest)
    (kept_moved starts i.noted c.args.key.now i.table.objects c.touch.ensures.apart))

pub invariant_of-self-2 : goal.invariant_of-self-2
invariant_of-self-2 c =
    let i = c.self.inside in
    let v = c.self.invariant in
    let newest = i.epochs.known.newest in
    let at = c.newest-newest.ensures.newest in record {
      room = rw c.in_ok-renew.ensures.after v.room;
      numbered = v.numbered;
      rising = v.rising;
      begun = v.begun;
      up_to = rw (c.in_ok-renew.ensures.after, at) (up_renewed newest c.args.key.now i.table.objects v.up_to);
      aim = v.aim;
      tried = tried_passed i.epochs.known.starts i.noted i.aimed i.table c.renew.new.self c.in_ok-renew.ensures.passed v.tried;
      settled = rw (c.in_ok-renew.ensures.after, at) (ap (λ n. past n i.epochs.known.starts) (needed_renewed newest i.noted c.args.key.now i.table.objects i.flights.items) ∙ v.settled);
    }

pub returns-clause-after : goal.returns-clause-after
returns-clause-after c =
    let i = c.self.inside in
    let starts = i.epochs.known.starts in
    let newest = i.epochs.known.newest in
    let at = c.newest-newest.ensures.newest in
    let none : (key : KeyParts) (ccid : Option (List ℕ)) → is_stale starts newest key ccid ≡ false = λ key ccid. ap (λ n. is_stale starts n key ccid) (sym at) ∙ c.newest-newest.ensures.none key ccid in
    let some : is_some (kept_of c.args.key.now (kept_in starts i.noted i.table.objects)) ≡ true = subst (λ (s : ShelfView). is_some (kept_of c.args.key.now s.kept) ≡ true) (sym c.self.view_is) c.requires in
    rw (← c.self.view_is, c.in_ok-renew.ensures.after, at) (ap (λ kept. shelf i.table.limit kept (map kept_object (objects.renewed c.args.key.now newest i.table.objects)) (map (flight_of starts) i.flights.items) i.fetched newest)
    (kept_renewed starts i.noted newest (omega (arith, c.self.invariant.aim.0, c.self.invariant.aim.1)) none c.args.key.now i.table.objects c.in_ok-renew.ensures.apart some))

pub returns-then-is_tried-clause-held : goal.returns-then-is_tried-clause-held
returns-then-is_tried-clause-held c = rw (← c.self.view_is, c.touch.ensures.after) (part_moved (objects.is_of c.args.key.now) c.self.inside.table.objects)

pub returns-clause-held : goal.returns-clause-held
returns-clause-held c = rw (← c.self.view_is, c.in_ok-renew.ensures.after) (part_renewed c.args.key.now c.newest-newest.result c.self.inside.table.objects)

pub returns-in_err-renew-clause-held : goal.returns-in_err-renew-clause-held
returns-in_err-renew-clause-held c = rw (← c.self.view_is, c.in_err-renew.ensures.refused) (part_same _)
