-- The command that serves.
use Rattle.std.specs.Prelude.{◌≡◌, ◌≢◌, ◌≤◌, ◌⊎◌, ℕ, true, List, [], ◌∷◌, ◌++◌, All, length, replicate, None, Some, Ok, Err, IfSome, IsSome}
use Rattle.std.specs.declared.option.Option.{Option}
use Rattle.doors.specs.Address.{address_of}
use Rattle.doors.specs.Outside.{Asked, Diary, DiaryGrows, Hired, Listened, Placed, Tellings}
use Rattle.doors.specs.declared.outside.OutsideFault.{OutsideFault}
use Rattle.doors.specs.declared.outside.OutsideFault.TheVariants as fault
use Rattle.edge_base.specs.Causes.{Rose}
use Rattle.edge_base.specs.declared.status.Status.{Status}
use Rattle.edge_base.specs.declared.status.Status.TheVariants as status
use Rattle.history.specs.Event.{History}
use Rattle.history.specs.World.{Made, node_made}
use Rattle.location_acl.specs.Line.{AreLines, StopsAt}
use Rattle.location_acl.specs.declared.line.PlaceLine.{PlaceLine}
use Rattle.serve_words.specs.declared.options.Options.{Options}
use Rattle.session_base.specs.declared.settings.Settings.{Settings}
use Rattle.workers.specs.Crew.{AreShifts, EndsWell, GaveBack, IsOneHistory, Serves, Shift, fault_status, refused, refused_status}
use Rattle.workers.specs.declared.crew.Crew.{Crew}
use Rattle.workers.specs.declared.hiring.Unhired.{Unhired}
use Rattle.http_node.specs.declared.serve.ServeEnd.{ServeEnd}
use Rattle.http_node.specs.declared.serve.ServeEnd.TheVariants as serve_end

-- ---- what the words say

-- with what the node is made
abbrev pub made_of : Options → Made
made_of options = node_made options.limits options.origin options.fields

-- what holds for all connections
abbrev pub settings_of : Options → Settings
settings_of options = record {
  protocol = options.advert.protocol;
  control = options.control;
  root = options.root;
  own = options.own;
  advert = options.advert;
  fields = options.fields;
}

-- the workers, with these places
abbrev pub crew_of : Options → List PlaceLine → Crew
crew_of options places = record {
  workers = options.workers;
  connections = options.connections;
  places = places;
  settings = settings_of options;
}

-- The table of places is that of the file at this path, for which the outside was called and which gave this text; where no
-- file is named it is that of an empty text, and the outside was not called.
abbrev pub IsTable : Option (List ℕ) → List Asked → List PlaceLine → Type 0
IsTable None asked places = (asked ≡ []) × AreLines [] places
IsTable (Some path) asked places = (text : List ℕ) × (asked ≡ Placed path (Ok text) ∷ []) × AreLines text places

-- ---- all is served

-- A worker for each pass served under what the words say, with the places of their file: the outside listened at their
-- address, gave the workers and took them back in order, and one history has all that they called.
pub record ServesAll (options : Options) (old new : Option Diary) : Type 0 where
  pub asked : List Asked
  pub places : List PlaceLine
  pub placed : IsTable options.places asked places
  pub shifts : List Shift
  pub history : History
  pub back : List Tellings
  pub count : length shifts ≡ options.workers
  pub one : IsOneHistory (made_of options) shifts history
  pub tell : AreShifts (settings_of options) places options.connections shifts back
  pub diary : DiaryGrows old new (asked ++ Listened options.address None ∷ replicate options.workers (Hired true)) back
  pub ends : All EndsWell shifts

-- ---- the calls of the outside, up to the first fault

-- the file of places at this path met a fault, or this line of its text does not read
abbrev pub HasNoTable : List ℕ → Option ℕ → Status → List Asked → Type 0
HasNoTable path None result calls = (met : OutsideFault) × (calls ≡ Placed path (Err met) ∷ []) × (result ≡ fault_status met)
HasNoTable path (Some line) result calls = (text : List ℕ) × (calls ≡ Placed path (Ok text) ∷ []) × StopsAt text line
    × (result ≡ status.Outside)

-- want of memory before it listened
pub record WantsMemory (options : Options) (line : Option ℕ) (result : Status) (calls : List Asked) (back : List Tellings) : Type 0 where
  pub asked : (calls ≡ []) ⊎ ((path : List ℕ) × (text : List ℕ) × (options.places ≡ Some path) × (calls ≡ Placed path (Ok text) ∷ []))
  pub none_back : back ≡ []
  pub no_line : line ≡ None
  pub ends_so : result ≡ status.Memory

-- there is no table of places
pub record Misplaced (options : Options) (line : Option ℕ) (result : Status) (calls : List Asked) (back : List Tellings) : Type 0 where
  pub path : List ℕ
  pub is_path : options.places ≡ Some path
  pub none : HasNoTable path line result calls
  pub none_back : back ≡ []

-- it does not listen at the address
pub record Unheard (options : Options) (line : Option ℕ) (result : Status) (calls : List Asked) (back : List Tellings) : Type 0 where
  pub asked : List Asked
  pub places : List PlaceLine
  pub placed : IsTable options.places asked places
  pub met : OutsideFault
  pub called : calls ≡ asked ++ Listened options.address (Some met) ∷ []
  pub none_back : back ≡ []
  pub no_line : line ≡ None
  pub ends_so : result ≡ fault_status met

-- it listens; so many workers are given, no more than the options ask for, and then no more: each is given back
pub record Unmanned (options : Options) (line : Option ℕ) (result : Status) (calls : List Asked) (back : List Tellings) : Type 0 where
  pub asked : List Asked
  pub places : List PlaceLine
  pub placed : IsTable options.places asked places
  pub number : ℕ
  pub why : Unhired
  pub fewer : number ≤ options.workers
  pub called : calls ≡ asked ++ Listened options.address None ∷ (replicate number (Hired true) ++ refused why)
  pub as_many : length back ≡ number
  pub no_line : line ≡ None
  pub ends_so : result ≡ refused_status why

-- it listens, and all workers are given and given back
pub record Manned (options : Options) (line : Option ℕ) (calls : List Asked) (back : List Tellings) : Type 0 where
  pub asked : List Asked
  pub places : List PlaceLine
  pub placed : IsTable options.places asked places
  pub called : calls ≡ asked ++ Listened options.address None ∷ replicate options.workers (Hired true)
  pub as_many : length back ≡ options.workers
  pub no_line : line ≡ None

abbrev pub IsPlan : Options → Option ℕ → Status → List Asked → List Tellings → Type 0
IsPlan options line result calls back = WantsMemory options line result calls back
    ⊎ (Misplaced options line result calls back
    ⊎ (Unheard options line result calls back
    ⊎ (Unmanned options line result calls back ⊎ Manned options line calls back)))

-- ---- the command

-- What becomes of the command of these options. `Outside` comes only where a line of the file of places does not read, which
-- is this line, where the address does not read, or where the outside's count of faults rose.
pub record IsCommand (options : Options) (old new : Option Diary) (returned returned' faults faults' : ℕ) (line : Option ℕ) (result : Status) : Type 0 where
  pub done : result ≡ status.Done → ServesAll options old new
  pub gave_back : result ≡ status.Done → GaveBack returned returned' options.workers
  pub kind : (result ≡ status.Done) ⊎ ((result ≡ status.Memory) ⊎ (result ≡ status.Outside))
  pub calls : (calls : List Asked) × (back : List Tellings) × DiaryGrows old new calls back × IsPlan options line result calls back
  pub outside : result ≡ status.Outside → IsSome line ⊎ ((address_of options.address ≡ None) ⊎ Rose faults faults')
  pub address : address_of options.address ≡ None → (result ≡ status.Outside) ⊎ (result ≡ status.Memory)
  pub bad_line : IfSome line (λ number. result ≡ status.Outside)

-- ---- parts of it

abbrev pub line_of : ServeEnd → Option ℕ
line_of (serve_end.Ended result) = None
line_of (serve_end.BadPlace line) = Some line

abbrev pub status_at : ServeEnd → Status
status_at (serve_end.Ended result) = result
status_at (serve_end.BadPlace line) = status.Outside

-- a text of places that does not read: at this line, or for want of memory
abbrev pub IsUnread : List ℕ → ServeEnd → Type 0
IsUnread text (serve_end.Ended result) = result ≡ status.Memory
IsUnread text (serve_end.BadPlace line) = StopsAt text line

-- the file at this path met a fault, or its text does not read
abbrev pub StopsSo : List ℕ → List Asked → ℕ → ℕ → ServeEnd → Type 0
StopsSo path calls faults faults' (serve_end.BadPlace line) = (text : List ℕ) × (calls ≡ Placed path (Ok text) ∷ []) × StopsAt text line
StopsSo path calls faults faults' (serve_end.Ended result) =
    ((text : List ℕ) × (calls ≡ Placed path (Ok text) ∷ []) × (result ≡ status.Memory))
    ⊎ ((met : OutsideFault) × (calls ≡ Placed path (Err met) ∷ []) × (result ≡ fault_status met) × (met ≢ fault.BadAddress)
    × (met ≡ fault.Failed → Rose faults faults'))

-- there is no table of places: want of memory, a fault of the outside, or a line that does not read
abbrev pub Stops : Option (List ℕ) → Option Diary → Option Diary → ℕ → ℕ → ServeEnd → Type 0
Stops None old new faults faults' end = DiaryGrows old new [] [] × (end ≡ serve_end.Ended status.Memory)
Stops (Some path) old new faults faults' end = (calls : List Asked) × DiaryGrows old new calls []
    × StopsSo path calls faults faults' end

-- listening met this fault
pub record ListensNot (address : List ℕ) (old new : Option Diary) (returned returned' faults faults' : ℕ) (result : Status) : Type 0 where
  pub met : OutsideFault
  pub diary : DiaryGrows old new (Listened address (Some met) ∷ []) []
  pub ends_so : result ≡ fault_status met
  pub bad : met ≡ fault.BadAddress → address_of address ≡ None
  pub failed : met ≡ fault.Failed → Rose faults faults'
  pub unread : address_of address ≡ None → met ≡ fault.BadAddress

-- it listens, and serves with the workers
pub record ListensAndServes (address : List ℕ) (by : Made) (crew : Crew) (old new : Option Diary) (returned returned' faults faults' : ℕ) (result : Status) : Type 0 where
  pub middle : Option Diary
  pub returned_then : ℕ
  pub faults_then : ℕ
  pub diary : DiaryGrows old middle (Listened address None ∷ []) []
  pub reads : address_of address ≡ None → ⊥
  pub same : returned_then ≡ returned
  pub later : faults ≤ faults_then
  pub serves : Serves by crew middle new returned_then returned' faults_then faults' result

abbrev pub Listens : List ℕ → Made → Crew → Option Diary → Option Diary → ℕ → ℕ → ℕ → ℕ → Status → Type 0
Listens address by crew old new returned returned' faults faults' result =
    ListensNot address old new returned returned' faults faults' result
    ⊎ ListensAndServes address by crew old new returned returned' faults faults' result

-- with these places: want of memory before it listens, or it listens
abbrev pub Places : Options → List PlaceLine → Option Diary → Option Diary → ℕ → ℕ → ℕ → ℕ → Status → Type 0
Places options places old new returned returned' faults faults' result =
    (DiaryGrows old new [] [] × (result ≡ status.Memory))
    ⊎ Listens options.address (made_of options) (crew_of options places) old new returned returned' faults faults' result
