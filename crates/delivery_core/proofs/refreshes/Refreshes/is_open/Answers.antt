use Rattle.std.proofs.Common.{refl, sym, ap, ◌∙◌, is_some, find}
use Rattle.shelf.proofs.ListLemmas.{found_map, some_map}
use Rattle.delivery_core.proofs.refreshes.Refreshes.is_open.Goals as goal
use Rattle.delivery_core.specs.Refreshes.{RefreshesView, with_since}
use Rattle.shelf.specs.Open.{is_named}

pub returns : goal.returns
returns c =
    let i = c.self.inside in
    let test = is_named c.args.refresh c.args.pass in
    c.is_some.ensures ∙ sym (some_map (λ o. o.now) c.find.result) ∙ ap is_some c.find.ensures
    ∙ found_map (with_since i.first i.starts.stored) test i.row.items _ refl
    ∙ ap (λ (v : RefreshesView). is_some (find test v.refreshes)) c.self.view_is
