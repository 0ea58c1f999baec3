use Rattle.std.proofs.Common.{sym, ◌∙◌, ap, drop, ◌+◌}
use Rattle.std.specs.List.{fold}
use Rattle.field_list.specs.List.{items_in}
use Rattle.field_list.proofs.ListLemmas.{comma_within, items_first, items_last}
use Rattle.field_list.proofs.list.told_in.Goals as goal

pub behind-rest-requires : goal.behind-rest-requires
behind-rest-requires g c = comma_within c.items.rest.now c.in-Some.at (sym c.in-Some.ensures)

pub items-preserved : goal.items-preserved
items-preserved g c =
    let after = g.T.Told.after in
    ap (fold after c.with-told.result) (ap items_in c.behind-rest.ensures)
    ∙ ap (λ told. fold after told (items_in (drop (c.in-Some.at + 1) c.items.rest.now))) (c.with-told.ensures ∙ ap (after c.items.told) c.trimmed.ensures)
    ∙ sym (ap (fold after c.items.told) (items_first c.items.rest.now c.in-Some.at (sym c.in-Some.ensures))) ∙ c.items.invariant

pub returns-in-None : goal.returns-in-None
returns-in-None g c =
    let after = g.T.Told.after in
    c.with.ensures ∙ ap (after c.items.told) c.trimmed-in-None.ensures
    ∙ sym (ap (fold after c.items.told) (items_last c.items.rest.now (sym c.in-None.ensures))) ∙ c.items.invariant
