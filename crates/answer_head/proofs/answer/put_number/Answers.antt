use Rattle.std.proofs.Common.{decimal}
use Rattle.answer_head.proofs.AnswerLemmas.{puts_fits, short_number}
use Rattle.answer_head.proofs.answer.put_number.Goals as goal

pub returns-clause-short : goal.returns-clause-short
returns-clause-short c = puts_fits 20 c.args.out.now c.append_number.new.self (decimal c.args.number) c.append_number.result (short_number c.args.number c.ranges.number.fits) c.append_number.ensures
