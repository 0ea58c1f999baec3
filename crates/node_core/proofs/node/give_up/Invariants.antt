use Rattle.std.proofs.Common.{◌≤◌, length}
use Rattle.history.specs.Event.{History}
use Rattle.history.specs.World.{Made}
use Rattle.node_core.proofs.node.give_up.Given as goal
use Rattle.node_core.specs.Node.{Holds, node_view}

-- the node holds what it held
abbrev pub invariant-front : goal.invariant-front
invariant-front l = record {
  holds : (m made : Made) (h : History) → Holds (node_view m l.state l.initial.journal) made h → Holds (node_view m l.state l.journal) made h;
  spare : l.initial.journal.spare ≤ l.journal.spare;
}

abbrev pub decreases-front : goal.decreases-front
decreases-front l = length l.journal.stored
