-- What workers serve together: their shifts, and the one history of all of them.
use Rattle.std.specs.Prelude.{◌≡◌, ◌≢◌, ◌⊎◌, ℕ, ◌+◌, ◌-◌, ◌^◌, ◌<◌, ◌≤◌, min, true, false, List, [], ◌∷◌, ◌++◌, All, length, map, replicate, None, Some}
use Rattle.std.specs.List.{flat_map, fold}
use Rattle.std.specs.declared.option.Option.{Option}
use Rattle.doors.specs.Door.{Book}
use Rattle.doors.specs.Ended.{EndsItsOwn}
use Rattle.doors.specs.Outside.{Asked, Diary, DiaryGrows, Hired, IsAllOf, IsNew, Tellings}
use Rattle.doors.specs.Visit.{IsEndOf, IsVisit, Visit, calls_of, exchanges_of, moments_of, passed_of}
use Rattle.doors.specs.declared.outside.OutsideFault.{OutsideFault}
use Rattle.doors.specs.declared.outside.OutsideFault.TheVariants as fault
use Rattle.doors.specs.declared.serve.DoorEnd.{DoorEnd}
use Rattle.doors.specs.declared.serve.DoorEnd.TheVariants as door_end
use Rattle.edge_base.specs.Causes.{Rose}
use Rattle.edge_base.specs.declared.status.Status.{Status}
use Rattle.edge_base.specs.declared.status.Status.TheVariants as status
use Rattle.history.specs.Event.{History}
use Rattle.history.specs.World.{Made}
use Rattle.location_acl.specs.declared.line.PlaceLine.{PlaceLine}
use Rattle.session_base.specs.Doing.{Called, Told}
use Rattle.session.specs.Law.{KeepsTheLaw}
use Rattle.session_base.specs.declared.settings.Settings.{Settings}
use Rattle.workers.specs.declared.crew.Crew.{Crew}
use Rattle.workers.specs.declared.hiring.Unhired.{Unhired}
use Rattle.workers.specs.declared.hiring.Unhired.TheVariants as unhired

-- ---- shifts

-- the connections that a worker served, one after the other, and how that ended
pub record Shift : Type 0 where
  pub visits : List Visit
  pub end : DoorEnd

-- where the door tells, this is all that passed: each connection was given, and closed before the next one was given
abbrev pub IsBookOf : Option Book → List Visit → Type 0
IsBookOf None visits = Unit {0}
IsBookOf (Some book) visits = book.passed ≡ flat_map passed_of visits

-- This is what a worker tells of the shift: each connection was served by a session; the gate's exchanges and the clock's
-- moments are those of the sessions and no others.
pub record IsShift (settings : Settings) (table : List PlaceLine) (connections : Option ℕ) (shift : Shift) (tells : Tellings) : Type 0 where
  pub each : All (λ (v : Visit). IsVisit settings table v) shift.visits
  pub door : IsBookOf tells.book shift.visits
  pub exchanges : IsAllOf tells.exchanges (flat_map exchanges_of shift.visits)
  pub moments : IsAllOf tells.moments (flat_map moments_of shift.visits)
  pub ends : IsEndOf connections (length shift.visits) tells.book shift.end

-- the workers tell these shifts, in order
abbrev pub AreShifts : Settings → List PlaceLine → Option ℕ → List Shift → List Tellings → Type 0
AreShifts settings table connections [] [] = Unit {0}
AreShifts settings table connections (shift ∷ shifts) (tells ∷ others) =
    IsShift settings table connections shift tells × AreShifts settings table connections shifts others
AreShifts settings table connections shifts others = ⊥

-- ---- their history

-- the calls of all sessions of a shift, one session after the other
abbrev pub shift_calls : Shift → List Called
shift_calls shift = flat_map calls_of shift.visits

-- the entries of the history that have this number are the calls of the first list, those of the next number the calls of
-- the next, and so on, each answered at its place as the history before it says
unfoldable pub AllTold : Made → ℕ → List (List Called) → History → Type 0
AllTold by number [] h = Unit {0}
AllTold by number (calls ∷ rest) h = Told (record { made = by; number = number }) [] calls h × AllTold by (number + 1) rest h

-- each pass from this number on has ended what it began
unfoldable pub AllEnd : Made → ℕ → List (List Called) → History → Type 0
AllEnd by number [] h = Unit {0}
AllEnd by number (calls ∷ rest) h = EndsItsOwn (record { made = by; number = number }) 0 h × AllEnd by (number + 1) rest h

-- one history of all shifts: its entries are their calls and no others, it keeps the law of deliveries, and what is begun
-- in it is ended
pub record IsOneHistory (by : Made) (shifts : List Shift) (h : History) : Type 0 where
  pub below : All (λ entry. entry.0 < length shifts) h
  pub told : AllTold by 0 (map shift_calls shifts) h
  pub ended : AllEnd by 0 (map shift_calls shifts) h
  pub law : KeepsTheLaw by h

-- ---- the status

-- the door had no connection left, or as many as were asked for were served
abbrev pub EndsWell : Shift → Type 0
EndsWell shift = (shift.end ≡ door_end.Closed) ⊎ (shift.end ≡ door_end.Served)

-- the status after one more door: that of a fault before that of want of memory
abbrev pub after_end : Status → DoorEnd → Status
after_end earlier door_end.Closed = earlier
after_end earlier door_end.Served = earlier
after_end earlier door_end.Failed = status.Outside
after_end status.Outside door_end.Memory = status.Outside
after_end earlier door_end.Memory = status.Memory

abbrev pub status_of : List Shift → Status
status_of shifts = fold (λ (earlier : Status) (shift : Shift). after_end earlier shift.end) status.Done shifts

-- the status of a fault of the outside
abbrev pub fault_status : OutsideFault → Status
fault_status fault.BadAddress = status.Outside
fault_status fault.Failed = status.Outside
fault_status fault.Memory = status.Memory

-- ---- serving

-- so many workers more were given back, as far as a count up to 2^64 - 1 can tell
abbrev pub GaveBack : ℕ → ℕ → ℕ → Type 0
GaveBack old new number = min new (2 ^ 64 - 1) ≡ min (old + number) (2 ^ 64 - 1)

-- The outside was called for these workers; they served, and were given back in order.
pub record Served (by : Made) (crew : Crew) (calls : List Asked) (old new : Option Diary) (returned returned' faults faults' : ℕ) (result : Status) : Type 0 where
  pub shifts : List Shift
  pub history : History
  pub back : List Tellings
  pub count : length shifts ≡ crew.workers
  pub one : IsOneHistory by shifts history
  pub tell : AreShifts crew.settings crew.places crew.connections shifts back
  pub diary : DiaryGrows old new calls back
  pub gave_back : GaveBack returned returned' crew.workers
  pub ends_so : result ≡ status_of shifts
  pub well : result ≡ status.Done → All EndsWell shifts
  pub failed : result ≡ status.Outside → Rose faults faults'

-- the call for a worker that was not hired, where there was one
abbrev pub refused : Unhired → List Asked
refused unhired.Memory = []
refused (unhired.Fault met) = Hired false ∷ []

abbrev pub refused_status : Unhired → Status
refused_status unhired.Memory = status.Memory
refused_status (unhired.Fault met) = fault_status met

-- So many workers were hired, and then no more; they served nobody, and were given back in order.
pub record Dismissed (crew : Crew) (old new : Option Diary) (returned returned' faults faults' : ℕ) (result : Status) : Type 0 where
  pub number : ℕ
  pub why : Unhired
  pub back : List Tellings
  pub fewer : number ≤ crew.workers
  pub diary : DiaryGrows old new (replicate number (Hired true) ++ refused why) back
  pub are_new : All IsNew back
  pub as_many : length back ≡ number
  pub gave_back : GaveBack returned returned' number
  pub ends_so : result ≡ refused_status why
  pub failed : result ≡ status.Outside → Rose faults faults'

-- a worker was hired for each pass, and all served; or so many were hired, and then no more
abbrev pub Serves : Made → Crew → Option Diary → Option Diary → ℕ → ℕ → ℕ → ℕ → Status → Type 0
Serves by crew old new returned returned' faults faults' result =
    Served by crew (replicate crew.workers (Hired true)) old new returned returned' faults faults' result
    ⊎ Dismissed crew old new returned returned' faults faults' result
