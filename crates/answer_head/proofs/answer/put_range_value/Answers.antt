use Rattle.std.proofs.Common.{sym, ap, codes, decimal}
use Rattle.byte_range.specs.Put.{range_text}
use Rattle.answer_head.specs.Answer.{content_range_text}
use Rattle.answer_head.proofs.AnswerLemmas.{adds_as, adds_then, puts_adds, puts_whole}
use Rattle.answer_head.proofs.answer.put_range_value.Goals as goal

pub returns-in-Part-clause-text : goal.returns-in-Part-clause-text
returns-in-Part-clause-text c =
    let put = puts_adds c.args.out.now c.put_part.new.out (range_text c.in-Part.first c.in-Part.last c.in-Part.len) c.put_part.result c.put_part.ensures.text in
    adds_as _ _ _ _ _ (ap content_range_text (sym c.in-Part.is)) put

pub returns-then-append-clause-text : goal.returns-then-append-clause-text
returns-then-append-clause-text c =
    let first = puts_whole c.args.out.now c.append.new.self (codes "bytes */") c.append.result c.if-append.true c.append.ensures in
    let last = puts_adds c.append.new.self c.put_number.new.out (decimal c.in-None.len) c.put_number.result c.put_number.ensures.text in
    adds_as _ _ _ _ _ (ap content_range_text (sym c.in-None.is)) (adds_then _ _ _ _ _ _ first last)
