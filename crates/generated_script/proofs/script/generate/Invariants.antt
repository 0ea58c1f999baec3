use Rattle.std.proofs.Common.{◌≡◌, ◌+◌, ◌<◌}
use Rattle.generated_script.specs.Script.{script_of, rounds_text}
use Rattle.generated_script.proofs.ScriptLemmas.{UnderWay}
use Rattle.generated_script.proofs.script.generate.Given as goal

abbrev pub invariant-rounds : goal.invariant-rounds
invariant-rounds g l = record {
  running : UnderWay (g.K.Sink.held l.fn.sink) (g.K.Sink.held l.sink) l.buffer.items (rounds_text l.left l.round l.course) (script_of l.numbers.rounds l.numbers.seed);
  numbered : l.round + l.left ≡ l.numbers.rounds + 1;
  answers : l.course.answers < l.round;
  write_well : g.K.Sink.faults l.sink ≡ g.K.Sink.faults l.fn.sink;
}

abbrev pub decreases-rounds : goal.decreases-rounds
decreases-rounds g l = l.left
