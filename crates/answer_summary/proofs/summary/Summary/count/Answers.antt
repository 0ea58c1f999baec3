use Rattle.std.proofs.Common.{sym, ◌∙◌}
use Rattle.std.proofs.lemmas.Bool.{eqb-true, eqb-false}
use Rattle.std.proofs.lemmas.Result.{on_ok_weaker}
use Rattle.answer_summary.proofs.SummaryLemmas.{rows_count, rows_without}
use Rattle.answer_summary.proofs.summary.Summary.count.Goals as goal

pub returns-then-is_empty-clause-counted : goal.returns-then-is_empty-clause-counted
returns-then-is_empty-clause-counted c = λ answers few same.
    rows_without answers _ _ _ c.word_of-word.ensures (eqb-true _ _ (sym c.is_empty.ensures ∙ c.if-is_empty.true)) same

pub returns-clause-counted : goal.returns-clause-counted
returns-clause-counted c = on_ok_weaker c.count_word.result (λ counts answers few same.
    rows_count answers _ _ _ _ c.word_of-word.ensures (eqb-false _ _ (sym c.is_empty.ensures ∙ c.if-is_empty.false)) counts few (c.self.view_is ∙ same)) c.count_word.ensures.counted
