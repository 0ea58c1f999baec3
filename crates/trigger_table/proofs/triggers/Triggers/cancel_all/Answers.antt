use Rattle.std.proofs.Common.{ap, sym}
use Rattle.trigger_table.proofs.Cancels.{cancelled_more, cancelled_none}
use Rattle.trigger_table.specs.Triggers.{with_triggers}
use Rattle.trigger_table.proofs.triggers.Triggers.cancel_all.Goals as goal

pub ids-init : goal.ids-init
ids-init c = ap (with_triggers c.args.self.now) (sym (cancelled_none c.args.moment c.args.self.now.triggers))

pub ids-preserved : goal.ids-preserved
ids-preserved c = rw (c.cancel_one.ensures, c.ids.invariant)
    (ap (with_triggers c.args.self.now) (cancelled_more c.args.moment c.args.ids.now c.ids.i c.args.self.now.triggers c.ids-test.true))
