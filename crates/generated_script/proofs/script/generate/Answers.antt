use Rattle.std.proofs.Common.{refl, ◌∙◌, arith}
use Rattle.std.proofs.Math.Seq.{take-length}
use Rattle.generated_script.proofs.ScriptLemmas.{running_start, running_round, running_moved, running_cut, running_front, running_done, begun}
use Rattle.generated_script.proofs.script.generate.Goals as goal

pub rounds-init : goal.rounds-init
rounds-init g c = record {
  running = running_start _ _ _ _ (begun _ _ _ _ _ _ c.new-buffer.ensures.items c.in-Ok.ensures c.rounds-left.ensures.value (rw c.seed.ensures.value at c.new-course.ensures));
  numbered = omega (arith, c.rounds-left.ensures.value);
  answers = rw c.new-course.ensures (omega arith);
  write_well = refl;
}

pub returns-in-Err-put_round-clause-text : goal.returns-in-Err-put_round-clause-text
returns-in-Err-put_round-clause-text g c = running_front _ _ _ _ _ c.rounds.invariant.running

pub returns-then-move_out-clause-text : goal.returns-then-move_out-clause-text
returns-then-move_out-clause-text g c =
    let p = c.in-Ok-put_round.ensures in
    let m = c.if-move_out.ensures.text in
    running_cut _ _ _ _ _ _ (running_round _ _ _ _ _ _ _ _ _ c.rounds.invariant.running (omega (arith, c.rounds-test.true)) p.lines p.course) m.0 m.1 m.2

pub rounds-preserved : goal.rounds-preserved
rounds-preserved g c =
    let p = c.in-Ok-put_round.ensures in
    record {
      running = running_moved _ _ _ _ _ _ _ (running_round _ _ _ _ _ _ _ _ _ c.rounds.invariant.running (omega (arith, c.rounds-test.true)) p.lines p.course) c.if-move_out.ensures.text;
      numbered = omega (arith, c.rounds.invariant.numbered, c.rounds-test.true);
      answers = omega (arith, c.rounds.invariant.answers, c.put_round.ensures.answers);
      write_well = c.move_out.ensures.cause.answered c.if-move_out.false ∙ c.rounds.invariant.write_well;
    }

pub returns-then-write_counted-clause-text : goal.returns-then-write_counted-clause-text
returns-then-write_counted-clause-text g c =
    running_cut _ _ _ _ _ _ c.rounds.invariant.running c.write_counted.result.taken (rw c.deref.ensures.value at (c.write_counted.ensures.cut c.if-write_counted.true)) (rw c.deref.ensures.value at c.write_counted.ensures.held)

pub returns-clause-text : goal.returns-clause-text
returns-clause-text g c =
    let w = c.write_counted.ensures in
    running_done _ _ _ _ _ _ _ _ c.rounds.invariant.running (omega (arith, c.rounds-test.false))
    (rw (w.whole c.if-write_counted.false, take-length, c.deref.ensures.value) at w.held)
