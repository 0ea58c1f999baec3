use Rattle.std.proofs.Common.{[], ◌∷◌, ◌++◌, refl, ◌∙◌, arith}
use Rattle.replay_script.proofs.ReadingLemmas.{never_writes}
use Rattle.replay_script.proofs.ReplayLemmas.{written_none, written_more, ends, reads, cut_ends, cut_reads, replay_unstarted, replay_unstarted_reads}
use Rattle.replay_script.proofs.script.replay.Goals as goal

pub returns-in_default-clause-ends : goal.returns-in_default-clause-ends
returns-in_default-clause-ends g c = replay_unstarted _ _

pub returns-in_default-clause-reads : goal.returns-in_default-clause-reads
returns-in_default-clause-reads g c = replay_unstarted_reads (g.S.Source.left c.args.input.now) (g.K.Sink.held c.args.output.now)

pub answers-init : goal.answers-init
answers-init g c = record {
  given = [];
  running = c.in-Ok.ensures.start _;
  written = written_none _;
  in_time = omega (arith, c.in-Ok.ensures.place);
  read_well = refl;
  write_well = refl;
}

pub returns-in-Err-clause-ends : goal.returns-in-Err-clause-ends
returns-in-Err-clause-ends g c = let i = c.answers.invariant in ends _ _ _ _ i.given i.written _ (c.in-Err.ensures.answers _ _ i.running)

pub returns-in-Err-clause-reads : goal.returns-in-Err-clause-reads
returns-in-Err-clause-reads g c = let i = c.answers.invariant in reads _ _ _ _ i.given i.written _ (c.in-Err.ensures.answers _ _ i.running)

pub returns-in-Err-clause-write : goal.returns-in-Err-clause-write
returns-in-Err-clause-write g c = λ is. absurd (never_writes _ _ _ _ (c.in-Err.ensures.answers _ _ c.answers.invariant.running) is)

pub returns-then-write_counted-clause-ends : goal.returns-then-write_counted-clause-ends
returns-then-write_counted-clause-ends g c =
    let i = c.answers.invariant in
    cut_ends _ _ _ _ _ i.given _ _ _ _ (c.in_default-next.ensures.answers _ _ i.running) i.written c.answer.ensures c.write_counted.ensures.held (c.write_counted.ensures.cut c.if-write_counted.true)

pub returns-then-write_counted-clause-reads : goal.returns-then-write_counted-clause-reads
returns-then-write_counted-clause-reads g c =
    let i = c.answers.invariant in
    cut_reads _ _ _ _ _ i.given _ _ _ _ (c.in_default-next.ensures.answers _ _ i.running) i.written c.answer.ensures c.write_counted.ensures.held (c.write_counted.ensures.cut c.if-write_counted.true)

pub answers-preserved : goal.answers-preserved
answers-preserved g c =
    let i = c.answers.invariant in
    let w = c.write_counted.ensures in
    record {
      given = i.given ++ c.next.new.self.answer ∷ [];
      running = c.in_default-next.ensures.answers _ _ i.running;
      written = written_more _ _ _ i.given _ _ _ i.written c.answer.ensures w.held (w.whole c.if-write_counted.false);
      in_time = c.next.ensures.in_time;
      read_well = c.in_default-next.ensures.read_well (λ e. cc) ∙ i.read_well;
      write_well = w.cause.answered c.if-write_counted.false ∙ i.write_well;
    }
