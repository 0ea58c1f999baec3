use Rattle.std.proofs.Common.{◌≤◌, ◌-◌, List, length}
use Rattle.edge_base.specs.Clock.{Grows}
use Rattle.upstream_gate.specs.Outcome.{Exchange}
use Rattle.metadata_links.specs.Gathering.{step_of}
use Rattle.metadata_links.specs.declared.gathering.TheConstants.{DOCUMENTS_MAX}
use Rattle.metadata_links.proofs.Following.{LeadsOn}
use Rattle.metadata_links.proofs.documents.follow_rest.Given as goal

abbrev pub invariant-links : goal.invariant-links
invariant-links g l = record {
  made : (made : List Exchange) × Grows (g.G.Gate.exchanges l.initial.gate) (g.G.Gate.exchanges l.gate) made × LeadsOn (step_of l.initial.gathering) made (step_of l.gathering);
  later : g.G.Gate.faults l.initial.gate ≤ g.G.Gate.faults l.gate;
}

abbrev pub decreases-links : goal.decreases-links
decreases-links g l = DOCUMENTS_MAX - length l.gathering.resources
