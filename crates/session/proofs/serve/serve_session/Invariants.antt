use Rattle.std.proofs.Common.{◌≡◌, ◌≤◌}
use Rattle.session.proofs.SessionLemmas.{SoFar}
use Rattle.session.proofs.serve.serve_session.Given as goal

abbrev pub invariant-turns : goal.invariant-turns
invariant-turns g l = record {
  who : g.H.Home.who l.home ≡ g.H.Home.who l.initial.home;
  stays : g.H.Home.stays l.initial.home l.home;
  so_far : SoFar l.settings l.peer.place l.turn (g.H.Home.who l.initial.home) (g.H.Home.has_seen l.initial.home) (g.H.Home.has_seen l.home) (g.C.Clock.given l.initial.clock) (g.C.Clock.given l.clock)
      (g.G.Gate.exchanges l.initial.gate) (g.G.Gate.exchanges l.gate) (g.G.Gate.faults l.initial.gate) (g.G.Gate.faults l.gate) (g.K.Sink.held l.initial.sink) (g.K.Sink.held l.sink) (g.S.Source.left l.initial.source) (g.S.Source.left l.source) l.inbox;
  write_later : g.K.Sink.faults l.initial.sink ≤ g.K.Sink.faults l.sink;
  read_later : g.S.Source.faults l.initial.source ≤ g.S.Source.faults l.source;
}
