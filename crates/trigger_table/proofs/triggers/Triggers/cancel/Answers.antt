use Rattle.std.proofs.Common.{sym, ◌∙◌}
use Rattle.trigger_table.proofs.Cancels.{cancel_is}
use Rattle.trigger_table.proofs.triggers.Triggers.cancel.Goals as goal

pub returns-in_ok-statuses-in-None-clause-reply : goal.returns-in_ok-statuses-in-None-clause-reply
returns-in_ok-statuses-in-None-clause-reply c =
    let known = rw c.as_slice.ensures at c.first_unknown.ensures in
    let is = rw c.as_slice-in-None.ensures at c.in_ok-statuses-in-None.ensures in
    cancel_is c.args.self.now.triggers c.args.ids.now c.args.moment _ (sym known ∙ c.in-None.is) is
