use Rattle.std.proofs.Common.{refl}
use Rattle.history.proofs.Opens.{begun_is_open, delivery_changes, fetch_changes, open_has_begun, refresh_changes}
use Rattle.history.proofs.laws.what_is_open_has_begun_and_not_ended.Goals as goal
use Rattle.history.specs.After.{begun_delivery, begun_fetch, begun_refresh}
use Rattle.history.specs.Laws.{ends_delivery, ends_fetch, ends_refresh}

pub returns-clause-deliveries : goal.returns-clause-deliveries
returns-clause-deliveries c = λ made h number pass. (
  open_has_begun (λ w. w.delivering.deliveries) begun_delivery ends_delivery delivery_changes number pass (λ made. refl) made h,
  begun_is_open (λ w. w.delivering.deliveries) begun_delivery ends_delivery delivery_changes number pass (λ made. refl) made h,
)

pub returns-clause-fetches : goal.returns-clause-fetches
returns-clause-fetches c = λ made h number pass. (
  open_has_begun (λ w. w.delivering.fetches) begun_fetch ends_fetch fetch_changes number pass (λ made. refl) made h,
  begun_is_open (λ w. w.delivering.fetches) begun_fetch ends_fetch fetch_changes number pass (λ made. refl) made h,
)

pub returns-clause-refreshes : goal.returns-clause-refreshes
returns-clause-refreshes c = λ made h number pass. (
  open_has_begun (λ w. w.delivering.refreshes) begun_refresh ends_refresh refresh_changes number pass (λ made. refl) made h,
  begun_is_open (λ w. w.delivering.refreshes) begun_refresh ends_refresh refresh_changes number pass (λ made. refl) made h,
)
