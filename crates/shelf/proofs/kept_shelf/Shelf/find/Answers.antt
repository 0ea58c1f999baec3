use Rattle.std.proofs.Common.{cond, None, Some, sym, ap, ◌∙◌}
use Rattle.std.specs.Option.{option_map}
use Rattle.shelf.proofs.StaleLemmas.{found_in, live_one}
use Rattle.shelf.proofs.kept_shelf.Shelf.find.Goals as goal
use Rattle.shelf.specs.KeptShelf.{kept_object}

pub returns-in-None : goal.returns-in-None
returns-in-None c =
    let i = c.self.inside in
    rw (← c.self.view_is) (sym (found_in i.epochs.known.starts i.noted c.args.key.now i.table.objects c.find.ensures.apart
    ∙ ap (λ found. option_map kept_object (live_one i.epochs.known.starts i.noted found)) (sym c.in-None.ensures.found)))

pub returns-then-is_gone : goal.returns-then-is_gone
returns-then-is_gone c =
    let i = c.self.inside in
    let o = c.in-Some.object.now in
    rw (← c.self.view_is) (sym (found_in i.epochs.known.starts i.noted c.args.key.now i.table.objects c.find.ensures.apart
    ∙ ap (λ found. option_map kept_object (live_one i.epochs.known.starts i.noted found)) (sym c.in-Some.ensures.found)
    ∙ ap (λ t. option_map kept_object (cond t None (Some o))) (sym c.is_gone.ensures ∙ c.if-is_gone.true)))

pub returns-else-is_gone : goal.returns-else-is_gone
returns-else-is_gone c =
    let i = c.self.inside in
    let o = c.in-Some.object.now in
    rw (← c.self.view_is) (sym (found_in i.epochs.known.starts i.noted c.args.key.now i.table.objects c.find.ensures.apart
    ∙ ap (λ found. option_map kept_object (live_one i.epochs.known.starts i.noted found)) (sym c.in-Some.ensures.found)
    ∙ ap (λ t. option_map kept_object (cond t None (Some o))) (sym c.is_gone.ensures ∙ c.if-is_gone.false)))
