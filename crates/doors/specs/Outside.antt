-- The outside: what it tells of its workers and of its calls.
use Rattle.std.specs.Prelude.{◌≡◌, ℕ, Bool, List, [], ◌++◌, None, Some, Ok, Err}
use Rattle.std.specs.declared.option.Option.{Option}
use Rattle.std.specs.declared.result.Result.{Result}
use Rattle.edge_base.specs.Causes.{Rose}
use Rattle.upstream_gate.specs.Outcome.{Exchange}
use Rattle.doors.specs.Door.{Book}
use Rattle.doors.specs.declared.outside.OutsideFault.{OutsideFault}
use Rattle.doors.specs.declared.outside.OutsideFault.TheVariants as fault
use Rattle.doors.specs.declared.outside.Worker.{Worker}

-- what a worker tells: of its door, of the exchanges of its gate and of the moments of its clock; and the faults of its
-- door
pub record Tellings : Type 0 where
  pub book : Option Book
  pub exchanges : Option (List Exchange)
  pub moments : Option (List ℕ)
  pub faults : ℕ

abbrev pub tells_of : {D G C : Type 0} → (D → Option Book) → (D → ℕ) → (G → Option (List Exchange)) → (C → Option (List ℕ))
    → Worker D G C → Tellings
tells_of book faults exchanges given worker = record {
  book = book worker.door;
  exchanges = exchanges worker.gate;
  moments = given worker.clock;
  faults = faults worker.door;
}

-- where it is told, this is all
abbrev pub IsAllOf : {A : Type 0} → Option (List A) → List A → Type 0
IsAllOf None all = Unit {0}
IsAllOf (Some told) all = told ≡ all

abbrev pub HasPassedNothing : Option Book → Type 0
HasPassedNothing None = Unit {0}
HasPassedNothing (Some book) = book.passed ≡ []

-- a new worker: its door has counted no fault, and given and closed no connection; its gate has made no exchange, and its
-- clock has given no moment
pub record IsNew (tells : Tellings) : Type 0 where
  pub faults : tells.faults ≡ 0
  pub book : HasPassedNothing tells.book
  pub exchanges : IsAllOf tells.exchanges []
  pub moments : IsAllOf tells.moments []

-- a call of the outside: for the file of places at a path, which gave this text or met this fault; to listen at an address,
-- which met this fault or none; and for a worker, which was given or not
pub data Asked : Type 0 where
  Placed : (path : List ℕ) (answer : Result (List ℕ) OutsideFault) → Asked
  Listened : (address : List ℕ) (fault : Option OutsideFault) → Asked
  Hired : (given : Bool) → Asked

-- what the outside tells: its calls, and what the workers told that were given back, each in order
pub record Diary : Type 0 where
  pub calls : List Asked
  pub back : List Tellings

-- the diary grew by these; an outside may stop telling, and then never tells again
abbrev pub DiaryGrows : Option Diary → Option Diary → List Asked → List Tellings → Type 0
DiaryGrows (Some old) (Some new) calls back = (new.calls ≡ old.calls ++ calls) × (new.back ≡ old.back ++ back)
DiaryGrows (Some old) None calls back = Unit {0}
DiaryGrows None (Some new) calls back = ⊥
DiaryGrows None None calls back = Unit {0}

abbrev pub fault_in : {A : Type 0} → Result A OutsideFault → Option OutsideFault
fault_in (Ok value) = None
fault_in (Err met) = Some met

-- a failure comes only where the count of faults rose
abbrev pub HasFaultCause : {A : Type 0} → ℕ → ℕ → Result A OutsideFault → Type 0
HasFaultCause before now (Ok value) = Unit {0}
HasFaultCause before now (Err fault.BadAddress) = Unit {0}
HasFaultCause before now (Err fault.Failed) = Rose before now
HasFaultCause before now (Err fault.Memory) = Unit {0}
