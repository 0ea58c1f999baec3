use Rattle.std.proofs.Common.{◌≡◌, ℕ, ◌+◌, ◌-◌, ◌≤◌, List}
use Rattle.replay_script.specs.Reading.{Running}
use Rattle.replay_script.proofs.ReplayLemmas.{Written}
use Rattle.replay_script.proofs.script.replay.Given as goal
use Rattle.replay_script.specs.declared.step.TheConstants.{SCRIPT_LIMIT}

abbrev pub invariant-answers : goal.invariant-answers
invariant-answers g l = record {
  given : List (List ℕ);
  running : Running (g.S.Source.left l.fn.input) (g.S.Source.left l.input) given l.reading;
  written : Written (g.K.Sink.held l.fn.output) (g.K.Sink.held l.output) given;
  in_time : l.reading.at ≤ SCRIPT_LIMIT;
  read_well : g.S.Source.faults l.input ≡ g.S.Source.faults l.fn.input;
  write_well : g.K.Sink.faults l.output ≡ g.K.Sink.faults l.fn.output;
}

abbrev pub decreases-answers : goal.decreases-answers
decreases-answers g l = SCRIPT_LIMIT + 1 - l.reading.at
