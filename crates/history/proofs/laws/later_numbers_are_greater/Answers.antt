use Rattle.history.proofs.Numbers.{deliveries_rise, fetches_rise, refreshes_rise}
use Rattle.history.proofs.laws.later_numbers_are_greater.Goals as goal

pub returns-clause-deliveries : goal.returns-clause-deliveries
returns-clause-deliveries c = deliveries_rise

pub returns-clause-fetches : goal.returns-clause-fetches
returns-clause-fetches c = fetches_rise

pub returns-clause-refreshes : goal.returns-clause-refreshes
returns-clause-refreshes c = refreshes_rise
