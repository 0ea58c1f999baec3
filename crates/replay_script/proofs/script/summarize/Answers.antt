use Rattle.std.proofs.Common.{[], ◌∷◌, ◌++◌, refl, ◌∙◌, arith}
use Rattle.replay_script.proofs.SummaryLemmas.{sums, sums_reads, sums_memory, sums_memory_reads, sums_unstarted, sums_unstarted_reads, counted_none}
use Rattle.replay_script.proofs.script.summarize.Goals as goal

pub returns-in_default-clause-ends : goal.returns-in_default-clause-ends
returns-in_default-clause-ends g c = sums_unstarted _ c.args.summary.now

pub returns-in_default-clause-reads : goal.returns-in_default-clause-reads
returns-in_default-clause-reads g c = sums_unstarted_reads (g.S.Source.left c.args.input.now)

pub answers-init : goal.answers-init
answers-init g c = record {
  given = [];
  running = c.in-Ok.ensures.start _;
  counted = c.requires ∙ counted_none;
  in_time = omega (arith, c.in-Ok.ensures.place);
  few = omega (arith, c.in-Ok.ensures.number);
  read_well = refl;
}

pub returns-in-Err-clause-ends : goal.returns-in-Err-clause-ends
returns-in-Err-clause-ends g c = let i = c.answers.invariant in sums _ _ i.given _ i.counted _ (c.in-Err.ensures.answers _ _ i.running)

pub returns-in-Err-clause-reads : goal.returns-in-Err-clause-reads
returns-in-Err-clause-reads g c = let i = c.answers.invariant in sums_reads _ _ i.given _ i.counted _ (c.in-Err.ensures.answers _ _ i.running)

pub returns-in-Err-count-clause-ends : goal.returns-in-Err-count-clause-ends
returns-in-Err-count-clause-ends g c = sums_memory _ _ _ _ [] (c.in_default-next.ensures.answers _ _ c.answers.invariant.running)

pub returns-in-Err-count-clause-reads : goal.returns-in-Err-count-clause-reads
returns-in-Err-count-clause-reads g c = sums_memory_reads _ _ _ _ (c.in_default-next.ensures.answers _ _ c.answers.invariant.running)

pub answers-preserved : goal.answers-preserved
answers-preserved g c =
    let i = c.answers.invariant in
    record {
      given = i.given ++ c.next.new.self.answer ∷ [];
      running = c.in_default-next.ensures.answers _ _ i.running;
      counted = rw c.answer.ensures at (c.in-Ok-count.ensures.counted i.given (omega (arith, i.running.each, i.few)) i.counted);
      in_time = c.next.ensures.in_time;
      few = c.next.ensures.few;
      read_well = c.in_default-next.ensures.read_well (λ e. cc) ∙ i.read_well;
    }
