use Rattle.std.proofs.Common.{refl}
use Rattle.history.proofs.Opens.{delivery_changes, fetch_changes, other_delivery, other_ends_nothing, other_fetch, other_refresh, refresh_changes}
use Rattle.history.proofs.laws.another_pass_ends_nothing.Goals as goal
use Rattle.history.specs.After.{begun_delivery, begun_fetch, begun_refresh}
use Rattle.history.specs.Laws.{ends_delivery, ends_fetch, ends_refresh}

pub returns-clause-deliveries : goal.returns-clause-deliveries
returns-clause-deliveries c = λ made h number pass entry. other_ends_nothing (λ w. w.delivering.deliveries) begun_delivery ends_delivery delivery_changes number pass (λ made. refl) made (other_delivery number pass) h entry

pub returns-clause-fetches : goal.returns-clause-fetches
returns-clause-fetches c = λ made h number pass entry. other_ends_nothing (λ w. w.delivering.fetches) begun_fetch ends_fetch fetch_changes number pass (λ made. refl) made (other_fetch number pass) h entry

pub returns-clause-refreshes : goal.returns-clause-refreshes
returns-clause-refreshes c = λ made h number pass entry. other_ends_nothing (λ w. w.delivering.refreshes) begun_refresh ends_refresh refresh_changes number pass (λ made. refl) made (other_refresh number pass) h entry
