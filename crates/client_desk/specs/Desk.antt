-- What a worker with no connection does next.
use Rattle.std.specs.Prelude.{ℕ, Bool, List, [], ◌∷◌, length, nat_lt, not, ◌==◌, ◌&&◌, if◌then◌else◌}
use Rattle.std.specs.Option.{option_map_or}
use Rattle.client_desk.specs.declared.desk.Desk.{Desk}
use Rattle.client_desk.specs.declared.desk.Step.{Step}
use Rattle.client_desk.specs.declared.desk.Step.TheVariants as step
use Rattle.client_desk.specs.declared.desk.Task.TheVariants as task
use Rattle.client_desk.specs.declared.parked.Lot.{Lot}
use Rattle.client_desk.specs.declared.parked.TheConstants.{LISTENER}
use Rattle.client_desk.specs.Parked.{parked_at}
use Rattle.client_desk.specs.Post.{is_attended, is_free}

-- the first of what is ready, which is the listener, or a connection unless that was closed; where nothing is ready, a
-- wait in the epoll, unless another worker waits there
abbrev pub first_step : Lot → Bool → List ℕ → Step
first_step lot watched [] = if watched then step.Sleep else step.Watch
first_step lot watched (token ∷ tokens) =
    if token == LISTENER then step.Do task.Accept
    else option_map_or (λ parked. step.Do (task.Read parked)) (parked_at lot token) step.Again

abbrev pub next_step : Desk → Step
next_step desk = first_step desk.lot desk.post.watched desk.lot.ready.items

-- no worker is free, and something is ready
abbrev pub is_crowded : Desk → Bool
is_crowded desk =
    not (is_free (is_attended desk.post.watched desk.post.called desk.post.summoned) desk.post.asleep desk.post.has_deputy)
    && nat_lt 0 (length desk.lot.ready.items)
