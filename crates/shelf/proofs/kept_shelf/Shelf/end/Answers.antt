use Rattle.std.proofs.Common.{Some, map, find, not, arith, refl, subst, sym, ap, ◌∙◌}
use Rattle.std.specs.Option.{option_map}
use Rattle.shelf.proofs.ListLemmas.{filter-map, find-map, taken_length}
use Rattle.shelf.proofs.OpenLemmas.{rising_filter, up_to_filter}
use Rattle.shelf.proofs.ShelfLemmas.{shelf}
use Rattle.shelf.proofs.StaleLemmas.{begun_filter, found_begun, past_twice}
use Rattle.shelf.proofs.kept_shelf.Shelf.end.Goals as goal
use Rattle.shelf.specs.KeptShelf.{IsPartOfOrKept, ShelfView, end_after, flight_of, kept_in, kept_object, least_needed}
use Rattle.shelf.specs.Open.{is_named}
use Rattle.rows.specs.Row.{RowSeen}
use Rattle.shelf.specs.declared.kept_shelf.Launched.{Launched}
use Rattle.shelf.proofs.HeldLemmas.{part_or_same}
use Rattle.shelf.specs.declared.open.Open.{Open}

pub keep-kept-requires-clause-begun : goal.keep-kept-requires-clause-begun
keep-kept-requires-clause-begun c =
    found_begun (is_named c.args.fetch c.args.pass) 0 c.self.inside.epochs.known.newest c.self.inside.flights.items c.in-Some.flight c.self.invariant.begun (sym c.in-Some.ensures.found)

pub settle-requires-clause-begun : goal.settle-requires-clause-begun
settle-requires-clause-begun c = rw c.take.ensures.after (begun_filter _ 0 c.self.inside.epochs.known.newest c.self.inside.flights.items c.self.invariant.begun)

pub invariant_of-self : goal.invariant_of-self
invariant_of-self c =
    let i = c.self.inside in
    let v = c.self.invariant in
    let fewer = taken_length c.in-Some.flight c.self.inside.flights.items c.take.new.self.items c.in-Some.ensures.one in
    let few = v.room in
    let spare = c.keep-kept.ensures.spare in
    let aim = c.keep-kept.ensures.aim in
    let same = c.settle.ensures.newest in record {
      room = omega (arith, fewer, few, spare);
      numbered = rw c.take.ensures.after (up_to_filter _ _ _ v.numbered);
      rising = rw c.take.ensures.after (rising_filter _ _ _ v.rising);
      begun = rw (c.settle.ensures.newest, c.take.ensures.after) (begun_filter _ 0 c.self.inside.epochs.known.newest c.self.inside.flights.items v.begun);
      up_to = rw c.settle.ensures.newest c.keep-kept.ensures.objects;
      aim = (aim.0, omega (arith, aim.1, same));
      tried = c.settle.ensures.tried c.keep-kept.new.aimed aim.0 c.keep-kept.ensures.tried;
      settled = rw (c.settle.ensures.newest, c.settle.ensures.starts) (past_twice (least_needed i.epochs.known.newest c.keep-kept.new.noted c.keep-kept.new.table.objects c.take.new.self.items) i.epochs.known.starts);
    }

pub returns-in-Some-clause-reply : goal.returns-in-Some-clause-reply
returns-in-Some-clause-reply c =
    let i = c.self.inside in
    let starts = i.epochs.known.starts in
    let test = is_named c.args.fetch c.args.pass in
    let found = find-map (flight_of starts) test i.flights.items ∙ ap (option_map (flight_of starts)) (sym c.in-Some.ensures.found) in
    rw (← c.self.view_is, found) (ap (λ t. Some t) c.keep-kept.ensures.reply)

pub returns-in-Some-clause-after : goal.returns-in-Some-clause-after
returns-in-Some-clause-after c =
    let i = c.self.inside in
    let starts = i.epochs.known.starts in
    let test = is_named c.args.fetch c.args.pass in
    let found = find-map (flight_of starts) test i.flights.items ∙ ap (option_map (flight_of starts)) (sym c.in-Some.ensures.found) in
    let limit = c.keep-kept.ensures.limit in
    let kept = c.settle.ensures.kept ∙ c.keep-kept.ensures.kept in
    let fetches =
    c.settle.ensures.fetches ∙ ap (λ (v : RowSeen (Open Launched)). map (flight_of starts) v.items) c.take.ensures.after
    ∙ sym (filter-map (flight_of starts) (λ o. not (test o)) i.flights.items) in
    let newest = c.settle.ensures.newest in
    let held = map kept_object c.keep-kept.new.table.objects in
    (λ j. shelf (limit j) (kept j) held (fetches j) i.fetched (newest j))
    ∙ ap (λ one. record (end_after (shelf i.table.limit (kept_in starts i.noted i.table.objects) (map kept_object i.table.objects) (map (flight_of starts) i.flights.items) i.fetched i.epochs.known.newest) c.args.pass c.args.fetch c.args.outcome one) { held = held }) (sym found)
    ∙ ap (λ (s : ShelfView). record (end_after s c.args.pass c.args.fetch c.args.outcome (find test s.fetches)) { held = held }) c.self.view_is

pub returns-in-None-clause-reply : goal.returns-in-None-clause-reply
returns-in-None-clause-reply c =
    let i = c.self.inside in
    let starts = i.epochs.known.starts in
    let found = find-map (flight_of starts) (is_named c.args.fetch c.args.pass) i.flights.items ∙ ap (option_map (flight_of starts)) (sym c.in-None.ensures.found) in
    rw (← c.self.view_is, found) refl

pub returns-in-None-clause-after : goal.returns-in-None-clause-after
returns-in-None-clause-after c =
    let i = c.self.inside in
    let starts = i.epochs.known.starts in
    let found = find-map (flight_of starts) (is_named c.args.fetch c.args.pass) i.flights.items ∙ ap (option_map (flight_of starts)) (sym c.in-None.ensures.found) in
    rw (← c.self.view_is, found, c.in-None.ensures.one) refl

pub returns-in-Some-clause-held : goal.returns-in-Some-clause-held
returns-in-Some-clause-held c = subst (λ kept. IsPartOfOrKept (map kept_object c.keep-kept.new.table.objects) c.args.self.now.held kept) (sym c.settle.ensures.kept)
    (subst (λ (s : ShelfView). IsPartOfOrKept (map kept_object c.keep-kept.new.table.objects) s.held (kept_in c.self.inside.epochs.known.starts c.keep-kept.new.noted c.keep-kept.new.table.objects)) c.self.view_is c.keep-kept.ensures.held)

pub returns-in-None-clause-held : goal.returns-in-None-clause-held
returns-in-None-clause-held c = rw (← c.self.view_is) (part_or_same _ _)
