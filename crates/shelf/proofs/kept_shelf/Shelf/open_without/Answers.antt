use Rattle.std.proofs.Common.{◌≡◌, ◌+◌, ◌∷◌, ◌++◌, [], None, map, ap, subst, sym, ◌∙◌, arith, length-append}
use Rattle.std.proofs.lemmas.List.{map-append}
use Rattle.epochs.specs.EpochsList.{past}
use Rattle.history.specs.Kept.{kept_of}
use Rattle.rows.specs.Row.{RowSeen}
use Rattle.shelf.proofs.HeldLemmas.{part_same}
use Rattle.shelf.proofs.OpenLemmas.{none_named, rising_push, up_to_push}
use Rattle.shelf.proofs.ShelfLemmas.{shelf}
use Rattle.shelf.proofs.StaleLemmas.{begun_push, needed_push}
use Rattle.shelf.proofs.kept_shelf.Shelf.open_without.Goals as goal
use Rattle.object_cache.specs.ObjectTable as objects
use Rattle.shelf.specs.KeptShelf.{IsPartOf, ShelfView, flight_of, kept_in, kept_object, opened}
use Rattle.shelf.specs.declared.kept_shelf.Launched.{Launched}
use Rattle.shelf.specs.declared.open.Open.{Open}

pub let_go-requires-clause-none : goal.let_go-requires-clause-none
let_go-requires-clause-none c = rw c.in_ok-reserve_fill.ensures.more (subst (λ (s : ShelfView). kept_of c.args.fetching.key s.kept ≡ None) (sym c.self.view_is) c.requires.none)

pub let_go-requires-clause-settled : goal.let_go-requires-clause-settled
let_go-requires-clause-settled c = rw (c.in_ok-reserve.ensures.places, c.in_ok-reserve_fill.ensures.more) c.self.invariant.settled

pub push-requires-clause-absent : goal.push-requires-clause-absent
push-requires-clause-absent c = rw c.in_ok-reserve.ensures.places (none_named _ _ _ _ c.self.invariant.numbered (omega arith))

pub invariant_of-self-2 : goal.invariant_of-self-2
invariant_of-self-2 c =
    let i = c.self.inside in
    let v = c.self.invariant in
    let few = v.room in
    let newest = i.epochs.known.newest in
    let at = c.newest-begun.ensures.newest in
    let same = c.let_go.ensures.newest in
    let spare = c.let_go.ensures.spare in record {
      room = rw (c.push.ensures.after, c.in_ok-reserve.ensures.places, c.let_go.ensures.spare, c.in_ok-reserve_fill.ensures.more, length-append) (omega (arith, few));
      numbered = rw (c.push.ensures.after, c.in_ok-reserve.ensures.places) (up_to_push _ _ _ _ v.numbered (omega arith) (omega arith));
      rising = rw (c.push.ensures.after, c.in_ok-reserve.ensures.places) (rising_push _ _ _ _ v.rising v.numbered (omega arith) (omega arith));
      begun = rw (c.push.ensures.after, c.in_ok-reserve.ensures.places, c.let_go.ensures.newest) (begun_push 0 newest i.flights.items _ v.begun (at ∙ same));
      up_to = c.let_go.ensures.up_to c.let_go.new.epochs.known.newest (rw (c.let_go.ensures.newest, c.in_ok-reserve_fill.ensures.more) v.up_to);
      aim = (v.aim.0, omega (arith, v.aim.1, same));
      tried = c.let_go.ensures.tried i.aimed v.aim.0 (rw c.in_ok-reserve_fill.ensures.more v.tried);
      settled = rw (c.push.ensures.after) (ap (λ n. past n c.let_go.new.epochs.known.starts) (needed_push c.let_go.new.epochs.known.newest i.noted c.let_go.new.table.objects c.reserve.new.self.items _ at) ∙ c.let_go.ensures.settled);
    }

pub returns-clause-after : goal.returns-clause-after
returns-clause-after c =
    let i = c.self.inside in
    let old = i.epochs.known.starts in
    let starts = c.let_go.new.epochs.known.starts in
    let held = map kept_object c.let_go.new.table.objects in
    let begun = c.newest-begun.result in
    let fetching = c.args.fetching in
    let item : Open Launched = record { number = i.fetched + 1; pass = c.args.pass; what = record { fetching = fetching; begun = begun } } in
    let limit = c.let_go.ensures.limit ∙ ap (λ (t : objects.Kept). t.limit) c.in_ok-reserve_fill.ensures.more in
    let kept = c.let_go.ensures.kept ∙ ap (λ (t : objects.Kept). kept_in old i.noted t.objects) c.in_ok-reserve_fill.ensures.more in
    let fetches =
    ap (λ (r : RowSeen (Open Launched)). map (flight_of starts) r.items) c.push.ensures.after ∙ map-append (flight_of starts) c.reserve.new.self.items (item ∷ [])
    ∙ ap (λ all. all ++ flight_of starts item ∷ []) c.let_go.ensures.fetches ∙ ap (λ (r : RowSeen (Open Launched)). map (flight_of old) r.items ++ flight_of starts item ∷ []) c.in_ok-reserve.ensures.places
    ∙ ap (λ hit. map (flight_of old) i.flights.items ++ record { number = i.fetched + 1; pass = c.args.pass; what = record { fetching = fetching; hit = hit } } ∷ []) (c.newest-begun.ensures.none fetching.key fetching.ccid) in
    let newest = c.let_go.ensures.newest in
    (λ j. shelf (limit j) (kept j) held (fetches j) (i.fetched + 1) (newest j)) ∙ ap (λ (s : ShelfView). record (opened s c.args.pass fetching) { held = held }) c.self.view_is

pub returns-in_err-reserve-clause-held : goal.returns-in_err-reserve-clause-held
returns-in_err-reserve-clause-held c = rw (← c.self.view_is) (part_same _)

pub returns-in_err-reserve_fill-clause-held : goal.returns-in_err-reserve_fill-clause-held
returns-in_err-reserve_fill-clause-held c = rw (← c.self.view_is, c.in_err-reserve_fill.ensures.refused) (part_same _)

pub returns-clause-held : goal.returns-clause-held
returns-clause-held c = rw (← c.self.view_is) (subst (λ (t : objects.Kept). IsPartOf (map kept_object c.let_go.new.table.objects) (map kept_object t.objects)) c.in_ok-reserve_fill.ensures.more c.let_go.ensures.held)
