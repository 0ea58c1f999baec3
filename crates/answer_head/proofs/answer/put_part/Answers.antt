use Rattle.byte_range.specs.Put.{range_text}
use Rattle.answer_head.proofs.AnswerLemmas.{puts_fits, short_range}
use Rattle.answer_head.proofs.answer.put_part.Goals as goal

pub returns-clause-short : goal.returns-clause-short
returns-clause-short c = puts_fits 68 c.args.out.now c.put_range.new.out (range_text c.args.first c.args.last c.args.len) c.put_range.result (short_range c.args.first c.args.last c.args.len c.ranges.first.fits c.ranges.last.fits c.ranges.len.fits) c.put_range.ensures
