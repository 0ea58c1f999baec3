use Rattle.std.proofs.Common.{◌≡◌}
use Rattle.trigger_table.specs.State.{refresh_ended_in}
use Rattle.trigger_table.proofs.Ends.{upto}
use Rattle.trigger_table.proofs.triggers.end_refresh.Given as goal

abbrev pub invariant-states : goal.invariant-states
invariant-states l = l.items ≡ upto (refresh_ended_in l.refresh l.good) l.state-index l.initial.items
