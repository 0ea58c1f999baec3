use Rattle.std.proofs.Common.{sym, ◌∙◌, None, Some}
use Rattle.std.proofs.lemmas.List.{append-nil}
use Rattle.trigger_table.proofs.Cancels.{statuses_more}
use Rattle.trigger_table.proofs.triggers.Triggers.cancelled_statuses.Goals as goal
use Rattle.trigger_table.proofs.triggers.Triggers.cancelled_statuses.Goals.{in-Some+in_ok-push, in_default}

pub ids-preserved : goal.ids-preserved
ids-preserved c = elim c.match-cancelled_status.branch [
  | in-Some+in_ok-push w ↦
      let more = statuses_more c.args.self.now.triggers c.args.ids.now c.ids.i (Some w.in-Some.status) c.ids-test.true (sym w.in-Some.is ∙ c.cancelled_status.ensures) in
      rw (w.statuses-is, w.in_ok-push.ensures.ok, c.ids.invariant) (sym more)
  | in_default w ↦
      let more = statuses_more c.args.self.now.triggers c.args.ids.now c.ids.i None c.ids-test.true (sym w.in_default.is ∙ c.cancelled_status.ensures) in
      rw (w.statuses-is, c.ids.invariant) (sym (more ∙ append-nil _))
]
