-- The hiring of workers.
use Rattle.std.specs.Prelude.{◌≡◌, ℕ, ◌+◌, true, List, [], ◌∷◌, ◌++◌, length, Ok, Err}
use Rattle.std.specs.declared.result.Result.{Result}
use Rattle.atomic_table.specs.Seated.{TableId}
use Rattle.doors.specs.Outside.{Asked, Hired}
use Rattle.doors.specs.declared.outside.OutsideFault.TheVariants as fault
use Rattle.edge_base.specs.Causes.{Rose}
use Rattle.history.specs.declared.call.Call.{Call}
use Rattle.turn_cell.specs.Cell.{SitsAt, number_of, numbers_of, seen_of}
use Rattle.turn_cell.specs.declared.pass.Pass.{Pass}
use Rattle.workers.specs.Crew.{refused}
use Rattle.workers.specs.Job.{IsReady, Post}
use Rattle.workers.specs.declared.hiring.Unhired.{Unhired}
use Rattle.workers.specs.declared.hiring.Unhired.TheVariants as unhired

-- the pass of this number of a cell with so many passes, which has seen nothing
pub record IsNewPass (table : TableId) (passes number : ℕ) (pass : Pass Call) : Type 0 where
  pub sits : SitsAt table passes pass
  pub numbered : number_of pass ≡ number
  pub own : numbers_of pass ≡ number ∷ []
  pub unseen : seen_of pass ≡ []

-- the passes from this number on
abbrev pub NewFrom : TableId → ℕ → ℕ → List (Pass Call) → Type 0
NewFrom table passes number [] = Unit {0}
NewFrom table passes number (pass ∷ rest) = IsNewPass table passes number pass × NewFrom table passes (number + 1) rest

-- one worker more was hired, and is ready with the pass of the next number
pub record HiredOne (table : TableId) (passes : ℕ) (old new : List Post) : Type 0 where
  pub post : Post
  pub ready : IsReady table passes (length old) post
  pub more : new ≡ old ++ post ∷ []

-- the calls of the outside for one worker
abbrev pub asked_in : {A : Type 0} → Result A Unhired → List Asked
asked_in (Ok done) = Hired true ∷ []
asked_in (Err why) = refused why

-- a fault that is counted comes only where the count rose
abbrev pub HasCause : ℕ → ℕ → Unhired → Type 0
HasCause faults faults' unhired.Memory = Unit {0}
HasCause faults faults' (unhired.Fault fault.BadAddress) = ⊥
HasCause faults faults' (unhired.Fault fault.Failed) = Rose faults faults'
HasCause faults faults' (unhired.Fault fault.Memory) = Unit {0}
