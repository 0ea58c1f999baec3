use Rattle.std.proofs.Common.{◌≡◌, ℕ, ◌+◌, ◌-◌, ◌≤◌, List}
use Rattle.answer_summary.specs.Summary.{rows_of}
use Rattle.replay_script.specs.Reading.{Running}
use Rattle.replay_script.proofs.script.summarize.Given as goal
use Rattle.replay_script.specs.declared.step.TheConstants.{SCRIPT_LIMIT}

abbrev pub invariant-answers : goal.invariant-answers
invariant-answers g l = record {
  given : List (List ℕ);
  running : Running (g.S.Source.left l.fn.input) (g.S.Source.left l.input) given l.reading;
  counted : l.summary ≡ rows_of given;
  in_time : l.reading.at ≤ SCRIPT_LIMIT;
  few : l.reading.number ≤ SCRIPT_LIMIT + 1;
  read_well : g.S.Source.faults l.input ≡ g.S.Source.faults l.fn.input;
}

abbrev pub decreases-answers : goal.decreases-answers
decreases-answers g l = SCRIPT_LIMIT + 1 - l.reading.at
