use Rattle.std.proofs.Common.{◌≡◌, ◌-◌, ◌<◌, length, sym, ap, ◌∙◌, subst, arith, rules, Some, slice_get}
use Rattle.std.proofs.lemmas.Option.{same_Some, slice_get_within}
use Rattle.epochs.specs.Chains.{PlaceList, forgotten_of}
use Rattle.epochs.specs.declared.chains.Place.{Place}
use Rattle.epochs.specs.declared.epochs_list.Start.{Start}
use Rattle.std.specs.declared.option.Option.{Option}
use Rattle.epochs.proofs.ChainLemmas.{IsFollowed, followed_first, followed_here, followed_none, followed_old, followed_on, key_bucket, max_cases, next_rank, rank_falls, url_found}
use Rattle.epochs.proofs.chains.Chains.has_url_since.Goals as goal

pub places-init : goal.places-init
places-init c = followed_first c.args.self.now c.args.newest c.args.begun c.args.key.now c.last_of-next.result c.requires c.last_of-next.ensures

pub returns-then-place-oldest : goal.returns-then-place-oldest
returns-then-place-oldest c =
    let f = subst (IsFollowed c.args.self.now c.args.newest c.args.begun c.args.key.now) c.in-Some.is c.places.invariant in
    followed_old c.args.self.now c.args.newest c.args.begun c.args.key.now c.in-Some.place f (max_cases c.in-Some.place.epoch c.args.begun (forgotten_of c.args.self.now.starts.items c.args.newest)
    (let len : length c.args.self.now.starts.items ≡ c.len.result = search rules in omega (arith, c.if-place-oldest.true, c.max-oldest.ensures, len)))

pub is_of-requires-clause-start : goal.is_of-requires-clause-start
is_of-requires-clause-start c =
    let f = subst (IsFollowed c.args.self.now c.args.newest c.args.begun c.args.key.now) c.in-Some.is c.places.invariant in
    let len : length c.args.self.now.starts.items ≡ c.len.result = search rules in
    let here = followed_here c.args.self.now c.args.newest c.args.begun (c.args.newest - c.len.result) c.args.key.now c.in-Some.place (omega (arith, len)) f
    (omega (arith, c.if-place-oldest.false, c.max-oldest.ensures)) (omega (arith, c.if-place-oldest.false, c.max-oldest.ensures)) in
    slice_get_within c.args.self.now.starts.items _ here.start here.at

pub is_of-requires-clause-url : goal.is_of-requires-clause-url
is_of-requires-clause-url c start at =
    let f = subst (IsFollowed c.args.self.now c.args.newest c.args.begun c.args.key.now) c.in-Some.is c.places.invariant in
    let len : length c.args.self.now.starts.items ≡ c.len.result = search rules in
    let here = followed_here c.args.self.now c.args.newest c.args.begun (c.args.newest - c.len.result) c.args.key.now c.in-Some.place (omega (arith, len)) f
    (omega (arith, c.if-place-oldest.false, c.max-oldest.ensures)) (omega (arith, c.if-place-oldest.false, c.max-oldest.ensures)) in
    subst (λ (s : Start). c.in-Some.place.item < length s.selection.content_urls) (same_Some here.start start (sym here.at ∙ at))
    (slice_get_within here.start.selection.content_urls c.in-Some.place.item here.url here.there)

pub returns-then-is_of : goal.returns-then-is_of
returns-then-is_of c =
    let f = subst (IsFollowed c.args.self.now c.args.newest c.args.begun c.args.key.now) c.in-Some.is c.places.invariant in
    let len : length c.args.self.now.starts.items ≡ c.len.result = search rules in
    let here = followed_here c.args.self.now c.args.newest c.args.begun (c.args.newest - c.len.result) c.args.key.now c.in-Some.place (omega (arith, len)) f
    (omega (arith, c.if-place-oldest.false, c.max-oldest.ensures)) (omega (arith, c.if-place-oldest.false, c.max-oldest.ensures)) in
    sym (url_found c.args.self.now.starts.items c.args.begun c.in-Some.place.epoch c.in-Some.place.item here.url c.args.key.now here.is_url
    (sym (c.is_of.ensures here.start here.url here.at here.there) ∙ c.if-is_of.true))

pub before-next-requires-clause-start : goal.before-next-requires-clause-start
before-next-requires-clause-start c =
    let f = subst (IsFollowed c.args.self.now c.args.newest c.args.begun c.args.key.now) c.in-Some.is c.places.invariant in
    let len : length c.args.self.now.starts.items ≡ c.len.result = search rules in
    let here = followed_here c.args.self.now c.args.newest c.args.begun (c.args.newest - c.len.result) c.args.key.now c.in-Some.place (omega (arith, len)) f
    (omega (arith, c.if-place-oldest.false, c.max-oldest.ensures)) (omega (arith, c.if-place-oldest.false, c.max-oldest.ensures)) in
    slice_get_within c.args.self.now.links.items _ here.list here.link

pub before-next-requires-clause-url : goal.before-next-requires-clause-url
before-next-requires-clause-url c list at =
    let f = subst (IsFollowed c.args.self.now c.args.newest c.args.begun c.args.key.now) c.in-Some.is c.places.invariant in
    let len : length c.args.self.now.starts.items ≡ c.len.result = search rules in
    let here = followed_here c.args.self.now c.args.newest c.args.begun (c.args.newest - c.len.result) c.args.key.now c.in-Some.place (omega (arith, len)) f
    (omega (arith, c.if-place-oldest.false, c.max-oldest.ensures)) (omega (arith, c.if-place-oldest.false, c.max-oldest.ensures)) in
    let same = same_Some here.list list (sym here.link ∙ at) in
    slice_get_within list.items c.in-Some.place.item here.before (ap (λ (l : PlaceList). slice_get l.items c.in-Some.place.item) (sym same) ∙ here.before_is)

pub places-smaller : goal.places-smaller
places-smaller c =
    let f = subst (IsFollowed c.args.self.now c.args.newest c.args.begun c.args.key.now) c.in-Some.is c.places.invariant in
    let len : length c.args.self.now.starts.items ≡ c.len.result = search rules in
    let forgotten : c.args.newest - c.len.result ≡ forgotten_of c.args.self.now.starts.items c.args.newest = omega (arith, len) in
    let here = followed_here c.args.self.now c.args.newest c.args.begun (c.args.newest - c.len.result) c.args.key.now c.in-Some.place forgotten f
    (omega (arith, c.if-place-oldest.false, c.max-oldest.ensures)) (omega (arith, c.if-place-oldest.false, c.max-oldest.ensures)) in
    subst (λ (o : Option Place). next_rank c.before-next.result < next_rank o) (sym c.in-Some.is)
    (subst (λ (o : Option Place). next_rank o < next_rank (Some c.in-Some.place)) (same_Some here.before c.before-next.result (sym here.before_is ∙ c.before-next.ensures here.list here.link))
    (rank_falls c.args.self.now.starts.items (c.args.newest - c.len.result) c.args.begun (key_bucket c.args.key.now) c.in-Some.place here.before here.last))

pub places-preserved : goal.places-preserved
places-preserved c =
    let f = subst (IsFollowed c.args.self.now c.args.newest c.args.begun c.args.key.now) c.in-Some.is c.places.invariant in
    let len : length c.args.self.now.starts.items ≡ c.len.result = search rules in
    let forgotten : c.args.newest - c.len.result ≡ forgotten_of c.args.self.now.starts.items c.args.newest = omega (arith, len) in
    let here = followed_here c.args.self.now c.args.newest c.args.begun (c.args.newest - c.len.result) c.args.key.now c.in-Some.place forgotten f
    (omega (arith, c.if-place-oldest.false, c.max-oldest.ensures)) (omega (arith, c.if-place-oldest.false, c.max-oldest.ensures)) in
    subst (IsFollowed c.args.self.now c.args.newest c.args.begun c.args.key.now) (same_Some here.before c.before-next.result (sym here.before_is ∙ c.before-next.ensures here.list here.link))
    (followed_on c.args.self.now c.args.newest c.args.begun (c.args.newest - c.len.result) c.args.key.now c.in-Some.place forgotten f here (sym (c.is_of.ensures here.start here.url here.at here.there) ∙ c.if-is_of.false))

pub returns : goal.returns
returns c = followed_none c.args.self.now c.args.newest c.args.begun c.args.key.now (subst (IsFollowed c.args.self.now c.args.newest c.args.begun c.args.key.now) c.in_default.is c.places.invariant)
