use Rattle.std.proofs.Common.{sym, ◌∙◌, ap}
use Rattle.answer_head.specs.Answer.{status_line}
use Rattle.answer_head.proofs.AnswerLemmas as lines
use Rattle.answer_head.proofs.answer.status_text.Goals as goal

pub returns-in-200-clause-text : goal.returns-in-200-clause-text
returns-in-200-clause-text c = lines.line_200 ∙ ap status_line (sym c.in-200.is)

pub returns-in-201-clause-text : goal.returns-in-201-clause-text
returns-in-201-clause-text c = lines.line_201 ∙ ap status_line (sym c.in-201.is)

pub returns-in-204-clause-text : goal.returns-in-204-clause-text
returns-in-204-clause-text c = lines.line_204 ∙ ap status_line (sym c.in-204.is)

pub returns-in-206-clause-text : goal.returns-in-206-clause-text
returns-in-206-clause-text c = lines.line_206 ∙ ap status_line (sym c.in-206.is)

pub returns-in-400-clause-text : goal.returns-in-400-clause-text
returns-in-400-clause-text c = lines.line_400 ∙ ap status_line (sym c.in-400.is)

pub returns-in-403-clause-text : goal.returns-in-403-clause-text
returns-in-403-clause-text c = lines.line_403 ∙ ap status_line (sym c.in-403.is)

pub returns-in-404-clause-text : goal.returns-in-404-clause-text
returns-in-404-clause-text c = lines.line_404 ∙ ap status_line (sym c.in-404.is)

pub returns-in-405-clause-text : goal.returns-in-405-clause-text
returns-in-405-clause-text c = lines.line_405 ∙ ap status_line (sym c.in-405.is)

pub returns-in-410-clause-text : goal.returns-in-410-clause-text
returns-in-410-clause-text c = lines.line_410 ∙ ap status_line (sym c.in-410.is)

pub returns-in-411-clause-text : goal.returns-in-411-clause-text
returns-in-411-clause-text c = lines.line_411 ∙ ap status_line (sym c.in-411.is)

pub returns-in-413-clause-text : goal.returns-in-413-clause-text
returns-in-413-clause-text c = lines.line_413 ∙ ap status_line (sym c.in-413.is)

pub returns-in-416-clause-text : goal.returns-in-416-clause-text
returns-in-416-clause-text c = lines.line_416 ∙ ap status_line (sym c.in-416.is)

pub returns-in-502-clause-text : goal.returns-in-502-clause-text
returns-in-502-clause-text c = lines.line_502 ∙ ap status_line (sym c.in-502.is)

pub returns-in-503-clause-text : goal.returns-in-503-clause-text
returns-in-503-clause-text c = lines.line_503 ∙ ap status_line (sym c.in-503.is)
