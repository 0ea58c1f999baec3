use Rattle.std.proofs.Common.{sym, ap, ◌∙◌, is_some, find}
use Rattle.shelf.proofs.ListLemmas.{some_map}
use Rattle.delivery_core.proofs.records.Records.is_open.Goals as goal
use Rattle.delivery_core.specs.Records.{RecordsView}
use Rattle.shelf.specs.Open.{is_named}

pub returns : goal.returns
returns c =
    let test = is_named c.args.delivery c.args.pass in
    c.is_some.ensures ∙ sym (some_map (λ o. o.now) c.find.result) ∙ ap is_some c.find.ensures ∙ ap (λ (v : RecordsView). is_some (find test v.deliveries)) c.self.view_is
