use Rattle.std.proofs.Common.{◌≡◌, ◌≤◌, map, length}
use Rattle.doors.specs.Outside.{tells_of}
use Rattle.turn_cell.specs.Cell.{passes_of}
use Rattle.workers.proofs.HiringLemmas.{HiredSo}
use Rattle.workers.specs.Job.{post_of}
use Rattle.workers.proofs.hiring.hire_all.Given as goal

abbrev pub invariant-passes : goal.invariant-passes
invariant-passes g l = record {
  can : (goal.iterator-passes g).can_next l.pass-iterator;
  finite : (goal.iterator-passes g).is_finite l.pass-iterator;
  so_far : HiredSo l.cell.turns.table.shared.table_id (passes_of l.cell.turns) (length l.fn.passes) (map (post_of (tells_of g.O.D.Door.book g.O.D.Door.faults g.O.G.Gate.exchanges g.O.C.Clock.given)) l.jobs.items) l.pass-iterator.rest.items (g.O.Outside.diary l.initial.outside) (g.O.Outside.diary l.outside);
  same : g.O.Outside.returned l.outside ≡ g.O.Outside.returned l.initial.outside;
  later : g.O.Outside.faults l.initial.outside ≤ g.O.Outside.faults l.outside;
}
