use Rattle.answer_head.proofs.AnswerLemmas.{taken_back}
use Rattle.answer_head.specs.Answer.{head_text}
use Rattle.answer_head.proofs.answer.put_head.Goals as goal

pub returns-clause-text : goal.returns-clause-text
returns-clause-text c = (
  c.in-Ok.date,
  c.in-Ok.ensures.value,
  taken_back c.args.out.now c.put_lines.new.out c.truncate.new.self (head_text c.args.head.now c.in-Ok.date) c.bytes-before.result.now c.bytes-before.ensures c.if-put_lines.ensures.text c.truncate.ensures,
)
