use Rattle.std.proofs.Common.{◌≡◌}
use Rattle.trigger_table.specs.State.{fetch_ended_in}
use Rattle.trigger_table.proofs.Ends.{upto}
use Rattle.trigger_table.proofs.triggers.end_fetch.Given as goal

abbrev pub invariant-states : goal.invariant-states
invariant-states l = l.items ≡ upto (fetch_ended_in l.fetch l.good) l.state-index l.initial.items
