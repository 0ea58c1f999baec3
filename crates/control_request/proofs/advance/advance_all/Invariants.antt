use Rattle.std.proofs.Common.{◌≡◌, ◌≤◌}
use Rattle.control_request.proofs.AdvanceLemmas.{SoFar}
use Rattle.control_request.proofs.advance.advance_all.Given as goal

abbrev pub invariant-steps : goal.invariant-steps
invariant-steps g l = record {
  who : g.H.Home.who l.home ≡ g.H.Home.who l.initial.home;
  stays : g.H.Home.stays l.initial.home l.home;
  so_far : SoFar l.settings.root l.id (g.H.Home.who l.initial.home) (g.H.Home.has_seen l.initial.home) (g.H.Home.has_seen l.home) (g.C.Clock.given l.initial.clock) (g.C.Clock.given l.clock)
      (g.G.Gate.exchanges l.initial.gate) (g.G.Gate.exchanges l.gate) (g.G.Gate.faults l.initial.gate) (g.G.Gate.faults l.gate);
  later : g.G.Gate.faults l.initial.gate ≤ g.G.Gate.faults l.gate;
}
