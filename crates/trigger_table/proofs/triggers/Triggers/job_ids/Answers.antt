use Rattle.std.proofs.Common.{◌≡◌, ℕ, List, sym, subst}
use Rattle.std.proofs.lemmas.Result.{IfOk-weaker}
use Rattle.history.specs.Steps.{listed}
use Rattle.trigger_table.proofs.Rising.{rising_listed}
use Rattle.trigger_table.specs.Triggers.{IsRising}
use Rattle.trigger_table.proofs.triggers.Triggers.job_ids.Goals as goal

pub returns-clause-rising : goal.returns-clause-rising
returns-clause-rising c =
    let i = c.self.inside in
    let up = rising_listed c.args.filter i.created i.items.items i.ids.items c.self.invariant.0 c.self.invariant.1 in
    let listed_ids = rw c.deref.ensures.value at c.listed.ensures in
    rw (← c.self.view_is) (IfOk-weaker c.listed.result (λ (ids : List ℕ). ids ≡ listed c.args.filter i.items.items) (IsRising 0 i.created) (λ ids is. subst (IsRising 0 i.created) (sym is) up) listed_ids)
