-- Outsides in memory.
use Rattle.std.specs.Prelude.{◌≡◌, ℕ, Bool, true, false, List, [], ◌∷◌, map, None, Some, Ok, Err}
use Rattle.std.specs.declared.option.Option.{Option}
use Rattle.std.specs.declared.result.Result.{Result}
use Rattle.doors.specs.MemoryDoor.{Hall, book_of}
use Rattle.doors.specs.Outside.{Asked, Diary, Hired, IsNew, Listened, Placed, Tellings, tells_of}
use Rattle.doors.specs.declared.outside.OutsideFault.{OutsideFault}
use Rattle.doors.specs.declared.outside.OutsideFault.TheVariants as fault
use Rattle.doors.specs.declared.outside.Worker.{Worker}
use Rattle.edge_base.specs.ListClock.{Ticks, moments_given}
use Rattle.upstream_gate.specs.MemoryGate.{Answers, told_of}
use Rattle.doors.specs.declared.memory_outside.Noted.{Noted}
use Rattle.doors.specs.declared.memory_outside.Noted.TheVariants as noted

abbrev pub MemoryWorker : Type 0
MemoryWorker = Worker Hall Answers Ticks

-- the workers left, the calls so far, the workers that were given back, the text of each file of places, whether this is
-- still told, the faults so far, and how many workers were given back
pub record Bureau : Type 0 where
  pub left : List MemoryWorker
  pub calls : List Asked
  pub back : List MemoryWorker
  pub places : List ℕ
  pub telling : Bool
  pub faults : ℕ
  pub returned : ℕ

-- what a worker tells
abbrev pub tells_at : MemoryWorker → Tellings
tells_at worker = tells_of book_of (λ d. d.faults) told_of moments_given worker

abbrev pub IsFresh : MemoryWorker → Type 0
IsFresh worker = IsNew (tells_at worker)

abbrev pub copy_if : Bool → List ℕ → Result (List ℕ) OutsideFault
copy_if true text = Ok text
copy_if false text = Err fault.Memory

-- a call as it was remembered, where the files of places have this text
abbrev pub asked_at : List ℕ → Noted → Asked
asked_at text (noted.Placed path copied) = Placed path (copy_if copied text)
asked_at text (noted.Listened address met) = Listened address met
asked_at text (noted.Hired given) = Hired given

abbrev pub told_if : Bool → Diary → Option Diary
told_if true diary = Some diary
told_if false diary = None

-- what the outside tells
abbrev pub diary_of : Bureau → Option Diary
diary_of bureau = told_if bureau.telling (record { calls = bureau.calls; back = map tells_at bureau.back })

-- the next worker is given, and a failure where none is left
abbrev pub GivesNext : List MemoryWorker → List MemoryWorker → Result MemoryWorker OutsideFault → Type 0
GivesNext old new (Ok worker) = old ≡ worker ∷ new
GivesNext old new (Err met) = (old ≡ []) × (new ≡ []) × (met ≡ fault.Failed)
