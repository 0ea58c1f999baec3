use Rattle.std.proofs.Common.{◌≡◌, ◌-◌, ◌<◌, length}
use Rattle.replay_script.specs.Ahead.{Moves}
use Rattle.replay_script.specs.Lines.{NoFeed}
use Rattle.replay_script.specs.declared.step.TheConstants.{LINE_LIMIT}
use Rattle.replay_script.proofs.ahead.Ahead.next_line.Given as goal

abbrev pub invariant-pieces : goal.invariant-pieces
invariant-pieces g l = record {
  moves : Moves (g.S.Source.left l.initial.source) (g.S.Source.left l.source) l.initial.self.ahead l.self.ahead l.line.items;
  plain : NoFeed l.line.items;
  short : length l.line.items < LINE_LIMIT;
  answered : g.S.Source.faults l.source ≡ g.S.Source.faults l.initial.source;
}

abbrev pub decreases-pieces : goal.decreases-pieces
decreases-pieces g l = LINE_LIMIT - length l.line.items
