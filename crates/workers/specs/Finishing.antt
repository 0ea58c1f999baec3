-- The joining of the passes, and the giving back.
use Rattle.std.specs.Prelude.{◌≡◌, ℕ, ◌<◌, ◌++◌, List, [], All, length, map, None, Some}
use Rattle.std.specs.declared.option.Option.{Option}
use Rattle.doors.specs.Outside.{Diary, DiaryGrows, Tellings}
use Rattle.edge_base.specs.Causes.{Rose}
use Rattle.edge_base.specs.declared.status.Status.{Status}
use Rattle.edge_base.specs.declared.status.Status.TheVariants as status
use Rattle.history.specs.Event.{History}
use Rattle.history.specs.World.{Made}
use Rattle.history.specs.declared.call.Call.{Call}
use Rattle.node_cell.specs.Standing.{Standing}
use Rattle.turn_cell.specs.Cell.{SitsAt, numbers_of, seen_of}
use Rattle.turn_cell.specs.History.{FollowedByOthers}
use Rattle.turn_cell.specs.declared.pass.Pass.{Pass}
use Rattle.workers.specs.Crew.{AllTold, AreShifts, GaveBack, Shift, shift_calls, status_of}
use Rattle.workers.specs.declared.crew.Crew.{Crew}

-- The pass that is kept sits in this cell, has also the numbers of the one that was taken in, and what either had seen is a
-- beginning of what it has seen, with none of its numbers behind.
abbrev pub TakesIn : Standing → Option (Pass Call) → Option (Pass Call) → Type 0
TakesIn home None (Some new) = SitsAt home.table home.passes new × (numbers_of new ≡ home.numbers) × (seen_of new ≡ home.seen)
TakesIn home (Some old) (Some new) = SitsAt home.table home.passes new × (numbers_of new ≡ numbers_of old ++ home.numbers)
    × FollowedByOthers (numbers_of old) (seen_of old) (seen_of new) × FollowedByOthers home.numbers home.seen (seen_of new)
TakesIn home old None = ⊥

-- All passes were joined and all workers given back that served these shifts: there is one history of them, and the outside
-- tells them.
pub record Finished (by : Made) (crew : Crew) (passes : ℕ) (shifts : List Shift) (old new : Option Diary) (returned returned' faults faults' : ℕ) (result : Status) : Type 0 where
  pub history : History
  pub back : List Tellings
  pub below : All (λ entry. entry.0 < passes) history
  pub told : AllTold by 0 (map shift_calls shifts) history
  pub tell : AreShifts crew.settings crew.places crew.connections shifts back
  pub diary : DiaryGrows old new [] back
  pub gave_back : GaveBack returned returned' (length shifts)
  pub ends_so : result ≡ status_of shifts
  pub failed : result ≡ status.Outside → Rose faults faults'
