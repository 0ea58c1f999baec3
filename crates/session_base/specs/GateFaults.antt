-- The count of a gate's faults, over the calls of a request or of a connection.
use Rattle.std.specs.Prelude.{◌≡◌, ◌≤◌, ℕ, Bool, true, false, List, All}
use Rattle.edge_base.specs.Causes.{Rose}
use Rattle.history.specs.Event.{Event, FetchEnd}
use Rattle.session_base.specs.Doing.{Called}
use Rattle.upstream_gate.specs.Outcome.{is_failed}

-- the call ends a fetch whose last ask failed
abbrev pub ends_failed : Event → Bool
ends_failed (FetchEnd fetch how moment) = is_failed how
ends_failed other = false

-- the count never fell, and it rose where one of these calls ends a fetch whose last ask failed
pub record CountsFaults (before now : ℕ) (calls : List Called) : Type 0 where
  pub later : before ≤ now
  pub risen : All (λ (call : Called). ends_failed call.0 ≡ true → Rose before now) calls
