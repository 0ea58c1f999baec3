use Rattle.answer_summary.proofs.SummaryLemmas.{sums_up}
use Rattle.answer_summary.proofs.law.a_summary_has_each_word_once.Goals as goal

pub returns : goal.returns
returns c = sums_up
