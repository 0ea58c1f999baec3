-- What a worker of a crew does.
use Rattle.std.specs.Prelude.{◌≡◌, ℕ, ◌+◌, ◌<◌, List, [], ◌∷◌, length, map}
use Rattle.atomic_table.specs.Seated.{TableId}
use Rattle.doors.specs.Outside.{IsNew, Tellings}
use Rattle.doors.specs.Visit.{IsEndOf, IsVisit, Serves, Visit}
use Rattle.doors.specs.declared.outside.Worker.{Worker}
use Rattle.doors.specs.declared.serve.DoorEnd.{DoorEnd}
use Rattle.doors.specs.declared.serve.DoorEnd.TheVariants as door_end
use Rattle.edge_base.specs.Causes.{Rose}
use Rattle.history.specs.World.{Made}
use Rattle.node_cell.specs.Entries.{history_of}
use Rattle.node_cell.specs.Standing.{Standing, StaysIn}
use Rattle.session_base.specs.Doing.{Told}
use Rattle.workers.specs.Crew.{IsShift, Shift, shift_calls}
use Rattle.workers.specs.declared.crew.Crew.{Crew}
use Rattle.workers.specs.declared.job.Job.{Job}

-- where a worker is at: where its pass stands, what it tells, and how the serving of its door ended
pub record Post : Type 0 where
  pub home : Standing
  pub tells : Tellings
  pub end : DoorEnd

abbrev pub post_of : {J D G C : Type 0} → (Worker D G C → Tellings) → Job J D G C → Post
post_of tells job = record { home = job.home; tells = tells job.worker; end = job.end }

-- The connections of its door were served through the home of its pass, which stays in its cell.
pub record Worked (by : Made) (crew : Crew) (old new : Post) : Type 0 where
  pub stays : StaysIn old.home new.home
  pub visits : List Visit
  pub serves : Serves crew.settings crew.places (record { made = by; number = old.home.number })
      (λ h. history_of old.home.seen ≡ h) (λ h. history_of new.home.seen ≡ h) old.tells.moments new.tells.moments
      old.tells.exchanges new.tells.exchanges old.tells.book new.tells.book visits
  pub ends : IsEndOf crew.connections (length visits) new.tells.book new.end
  pub failed : new.end ≡ door_end.Failed → Rose old.tells.faults new.tells.faults

abbrev pub AllWorked : Made → Crew → List Post → List Post → Type 0
AllWorked by crew [] [] = Unit {0}
AllWorked by crew (old ∷ olds) (new ∷ news) = Worked by crew old new × AllWorked by crew olds news
AllWorked by crew olds news = ⊥

-- its pass is of this cell, with so many passes
abbrev pub IsInCell : TableId → ℕ → Post → Type 0
IsInCell table passes post = (post.home.table ≡ table) × (post.home.passes ≡ passes)

-- it has not begun, with the pass of this number of a cell with so many passes
pub record IsReady (table : TableId) (passes number : ℕ) (post : Post) : Type 0 where
  pub cell : IsInCell table passes post
  pub numbered : post.home.number ≡ number
  pub numbers : post.home.numbers ≡ number ∷ []
  pub unseen : post.home.seen ≡ []
  pub fresh : IsNew post.tells

-- they have not begun, with the passes from this number on
abbrev pub ReadyFrom : TableId → ℕ → ℕ → List Post → Type 0
ReadyFrom table passes number [] = Unit {0}
ReadyFrom table passes number (post ∷ posts) = IsReady table passes number post × ReadyFrom table passes (number + 1) posts

-- it has served this shift, with the pass of this number
pub record IsDone (by : Made) (crew : Crew) (table : TableId) (passes number : ℕ) (post : Post) (shift : Shift) : Type 0 where
  pub cell : IsInCell table passes post
  pub numbers : post.home.numbers ≡ number ∷ []
  pub told : Told (record { made = by; number = number }) [] (shift_calls shift) (history_of post.home.seen)
  pub tell : IsShift crew.settings crew.places crew.connections shift post.tells
  pub ends_so : shift.end ≡ post.end
  pub failed : post.end ≡ door_end.Failed → 0 < post.tells.faults

-- they have served these shifts, with the passes from this number on
abbrev pub DoneFrom : Made → Crew → TableId → ℕ → ℕ → List Post → List Shift → Type 0
DoneFrom by crew table passes number [] [] = Unit {0}
DoneFrom by crew table passes number (post ∷ posts) (shift ∷ shifts) =
    IsDone by crew table passes number post shift × DoneFrom by crew table passes (number + 1) posts shifts
DoneFrom by crew table passes number posts shifts = ⊥
