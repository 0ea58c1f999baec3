use Rattle.std.proofs.Common.{◌≡◌, ◌≤◌}
use Rattle.doors.specs.Served.{HasServedAll}
use Rattle.doors.proofs.VisitLemmas.{SoFar}
use Rattle.doors.proofs.serve.serve_door.Given as goal

abbrev pub invariant-serving : goal.invariant-serving
invariant-serving g l = record {
  served : HasServedAll (g.D.Door.book l.worker.door);
  who : g.H.Home.who l.home ≡ g.H.Home.who l.initial.home;
  stays : g.H.Home.stays l.initial.home l.home;
  so_far : SoFar l.settings l.places l.fn.connections l.left (g.H.Home.who l.initial.home) (g.H.Home.has_seen l.initial.home) (g.H.Home.has_seen l.home) (g.C.Clock.given l.initial.worker.clock) (g.C.Clock.given l.worker.clock)
      (g.G.Gate.exchanges l.initial.worker.gate) (g.G.Gate.exchanges l.worker.gate) (g.D.Door.book l.initial.worker.door) (g.D.Door.book l.worker.door);
  later : g.D.Door.faults l.initial.worker.door ≤ g.D.Door.faults l.worker.door;
}
