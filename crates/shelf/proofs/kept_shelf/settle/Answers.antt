use Rattle.std.proofs.Common.{◌≡◌, min, arith, ap, ◌∙◌}
use Rattle.shelf.proofs.StaleLemmas.{least_top, needed_none, needed_some, settled_fetches}
use Rattle.shelf.proofs.TriedLemmas.{tried_settled}
use Rattle.shelf.proofs.kept_shelf.settle.Goals as goal
use Rattle.shelf.specs.KeptShelf.{least_begun, least_needed}

-- the start up to which others are forgotten
none_is : (c : goal.After-settle) → c.first_begun-oldest.result ≡ least_needed c.args.epochs.now.known.newest c.args.noted c.args.table.now.objects c.args.flights.now.items
none_is c =
    let fs = c.args.flights.now.items in
    let none = c.len.ensures in
    c.first_begun-oldest.ensures ∙ ap (λ n. least_begun n fs) c.newest.ensures.newest
    ∙ needed_none c.args.epochs.now.known.newest c.args.noted c.args.table.now.objects fs (omega (arith, none, c.if-len-eq0.true))

some_is : (c : goal.After-settle-else-len-eq0) → c.min.result ≡ least_needed c.args.epochs.now.known.newest c.args.noted c.args.table.now.objects c.args.flights.now.items
some_is c =
    let fs = c.args.flights.now.items in
    c.min.ensures ∙ ap (λ n. min n c.args.noted) (c.first_begun-oldest.ensures ∙ ap (λ n. least_begun n fs) c.newest.ensures.newest)
    ∙ needed_some c.args.epochs.now.known.newest c.args.noted c.args.table.now.objects fs (λ none. c.if-len-eq0.false (c.len.ensures ∙ none))

pub settle-requires : goal.settle-requires
settle-requires c =
    let top = least_top c.newest.result c.args.flights.now.items in
    omega (arith, top, c.first_begun-oldest.ensures, c.newest.ensures.newest)

pub returns-then-len-eq0-clause-fetches : goal.returns-then-len-eq0-clause-fetches
returns-then-len-eq0-clause-fetches c =
    let known = c.args.epochs.now.known in
    settled_fetches known.starts c.settle.new.self.known.starts known.newest c.args.noted c.first_begun-oldest.result c.args.table.now.objects c.args.flights.now.items (none_is c) c.settle.ensures.agrees 0 c.requires.begun

pub returns-else-len-eq0-clause-fetches : goal.returns-else-len-eq0-clause-fetches
returns-else-len-eq0-clause-fetches c =
    let known = c.args.epochs.now.known in
    settled_fetches known.starts c.settle-else-len-eq0.new.self.known.starts known.newest c.args.noted c.min.result c.args.table.now.objects c.args.flights.now.items (some_is c) c.settle-else-len-eq0.ensures.agrees 0 c.requires.begun

pub returns-then-len-eq0-clause-tried : goal.returns-then-len-eq0-clause-tried
returns-then-len-eq0-clause-tried c aimed =
    let known = c.args.epochs.now.known in
    let table = c.args.table.now in
    tried_settled known.starts c.settle.new.self.known.starts known.newest c.args.noted aimed c.first_begun-oldest.result table.passed table.objects c.args.flights.now.items (none_is c) c.settle.ensures.agrees

pub returns-else-len-eq0-clause-tried : goal.returns-else-len-eq0-clause-tried
returns-else-len-eq0-clause-tried c aimed =
    let known = c.args.epochs.now.known in
    let table = c.args.table.now in
    tried_settled known.starts c.settle-else-len-eq0.new.self.known.starts known.newest c.args.noted aimed c.min.result table.passed table.objects c.args.flights.now.items (some_is c) c.settle-else-len-eq0.ensures.agrees
