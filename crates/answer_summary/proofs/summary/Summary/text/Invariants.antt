use Rattle.std.proofs.Common.{◌≡◌, ◌++◌, drop}
use Rattle.answer_summary.specs.Summary.{summary_text}
use Rattle.answer_summary.proofs.summary.Summary.text.Given as goal

abbrev pub invariant-rows : goal.invariant-rows
invariant-rows l = l.out.items ++ summary_text (drop l.row-index l.row-items) ≡ summary_text l.row-items
