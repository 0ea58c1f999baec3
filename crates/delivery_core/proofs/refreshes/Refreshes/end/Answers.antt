use Rattle.std.proofs.Common.{not, refl, sym, ap, arith}
use Rattle.shelf.proofs.ListLemmas.{filter-map, find-map}
use Rattle.shelf.proofs.OpenLemmas.{up_to_filter}
use Rattle.delivery_core.proofs.RefreshLemmas.{between_filter, between_found, refreshes}
use Rattle.delivery_core.proofs.refreshes.Refreshes.end.Goals as goal
use Rattle.shelf.specs.Open.{is_named}
use Rattle.delivery_core.specs.Refreshes.{with_since}

pub overflow_sub-from : goal.overflow_sub-from
overflow_sub-from c = (between_found _ _ _ c.self.inside.row.items c.in-Some.open c.self.invariant.0 (sym c.in-Some.ensures.found)).0

pub first_hit-stale-requires : goal.first_hit-stale-requires
first_hit-stale-requires c =
    let within = between_found _ _ _ c.self.inside.row.items c.in-Some.open c.self.invariant.0 (sym c.in-Some.ensures.found) in omega (arith, within.0, within.1)

pub forget-requires-clause-places : goal.forget-requires-clause-places
forget-requires-clause-places c = rw c.take.ensures.after (between_filter _ _ _ _ c.self.invariant.0)

pub invariant_of-self : goal.invariant_of-self
invariant_of-self c = (
  c.forget.ensures.places,
  rw c.take.ensures.after (up_to_filter _ _ _ c.self.invariant.1),
  (let few = c.self.invariant.2 in omega (arith, c.forget.ensures.end, few)),
)

pub returns-in-Some-clause-found : goal.returns-in-Some-clause-found
returns-in-Some-clause-found c =
    let i = c.self.inside in
    rw (← c.self.view_is, find-map (with_since i.first i.starts.stored) (is_named c.args.refresh c.args.pass) i.row.items, ← c.in-Some.ensures.found, c.first_hit-stale.ensures) refl

pub returns-in-Some-clause-after : goal.returns-in-Some-clause-after
returns-in-Some-clause-after c =
    let i = c.self.inside in
    let see = with_since i.first i.starts.stored in
    rw (← c.self.view_is, c.forget.ensures.seen, c.take.ensures.after)
    (ap (λ all. refreshes all i.refreshed i.started c.forget.new.starts.spare) (sym (filter-map see (λ one. not (is_named c.args.refresh c.args.pass one)) i.row.items)))

pub returns-in-None-clause-found : goal.returns-in-None-clause-found
returns-in-None-clause-found c =
    let i = c.self.inside in
    rw (← c.self.view_is, find-map (with_since i.first i.starts.stored) (is_named c.args.refresh c.args.pass) i.row.items, ← c.in-None.ensures.found) refl

pub returns-in-None-clause-after : goal.returns-in-None-clause-after
returns-in-None-clause-after c =
    let i = c.self.inside in
    let see = with_since i.first i.starts.stored in
    rw (← c.self.view_is, c.take.ensures.after)
    (ap (λ all. refreshes all i.refreshed i.started i.starts.spare) (sym (filter-map see (λ one. not (is_named c.args.refresh c.args.pass one)) i.row.items)))
