use Rattle.std.proofs.Common.{sym, ◌∙◌}
use Rattle.trigger_cascade.proofs.OrderLemmas.{order_waits}
use Rattle.trigger_cascade.proofs.cascade.cascade.Goals as goal

pub carry_out-requires : goal.carry_out-requires
carry_out-requires g c = order_waits c.args.words.now c.in-Ok-Some.order (rw c.in-Ok-Some.field-0-is at (sym c.in-Ok-Some.ensures))
