use Rattle.std.proofs.Common.{◌-◌}
use Rattle.client_desk.proofs.parked.Lot.moment_for.Given as goal

abbrev pub decreases-moments : goal.decreases-moments
decreases-moments l = l.now - l.moment
