use Rattle.std.proofs.Common.{◌≡◌, ◌≤◌, All, IfSome, List, map}
use Rattle.doors.specs.Outside.{tells_of}
use Rattle.turn_cell.specs.Cell.{IsOf, passes_of}
use Rattle.workers.proofs.FinishingLemmas.{SoFar}
use Rattle.workers.specs.Crew.{Shift}
use Rattle.workers.specs.Job.{DoneFrom, IsInCell, post_of}
use Rattle.workers.specs.declared.crew.Crew.{Crew}
use Rattle.workers.proofs.finishing.finish.Given as goal

abbrev pub invariant-jobs : goal.invariant-jobs
invariant-jobs g l = record {
  can : (goal.iterator-jobs g).can_next l.job-iterator;
  finite : (goal.iterator-jobs g).is_finite l.job-iterator;
  cell : All (IsInCell l.cell.turns.table.shared.table_id (passes_of l.cell.turns)) (map (post_of (tells_of g.O.D.Door.book g.O.D.Door.faults g.O.G.Gate.exchanges g.O.C.Clock.given)) l.job-iterator.rest.items);
  kept : IfSome l.kept (λ keep. IsOf l.cell.turns keep);
  so_far : (crew : Crew) (shifts : List Shift) → DoneFrom g.J.MadeWith.made crew l.cell.turns.table.shared.table_id (passes_of l.cell.turns) 0 (map (post_of (tells_of g.O.D.Door.book g.O.D.Door.faults g.O.G.Gate.exchanges g.O.C.Clock.given)) l.fn.jobs.items) shifts
      → SoFar g.J.MadeWith.made crew l.cell.turns.table.shared.table_id (passes_of l.cell.turns) shifts (map (post_of (tells_of g.O.D.Door.book g.O.D.Door.faults g.O.G.Gate.exchanges g.O.C.Clock.given)) l.job-iterator.rest.items) l.kept (g.O.Outside.diary l.initial.outside) (g.O.Outside.diary l.outside) (g.O.Outside.returned l.initial.outside) (g.O.Outside.returned l.outside) (g.O.Outside.faults l.initial.outside) (g.O.Outside.faults l.outside) l.status;
  later : g.O.Outside.faults l.initial.outside ≤ g.O.Outside.faults l.outside;
}
