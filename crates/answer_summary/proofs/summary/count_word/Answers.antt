use Rattle.std.proofs.Common.{◌≡◌, ◌∙◌, ap, refl, arith}
use Rattle.answer_summary.specs.declared.summary.Row.{Row}
use Rattle.answer_summary.proofs.SummaryLemmas.{count_bumped, count_added, read_again}
use Rattle.answer_summary.proofs.summary.count_word.Goals as goal
use Rattle.answer_summary.proofs.summary.count_word.Goals.{else-place-len-via-then-place-len+else-is, else-place-len-via-else-place-len}

pub returns-then-is-clause-counted : goal.returns-then-is-clause-counted
returns-then-is-clause-counted c =
    count_bumped _ _ _ c.index.result.now c.index_mut-row.result.now _ (rw c.deref.ensures.value at c.place_of-place.ensures.place)
    (omega arith) c.index.ensures (c.if-is.ensures.same.0 refl) c.index_mut-row.ensures.value c.saturating_add-row.ensures

pub returns-clause-counted : goal.returns-clause-counted
returns-clause-counted c =
    count_added _ _ _ _ (rw c.deref.ensures.value at c.place_of-place.ensures.place)
    (λ row within found. elim c.else-place-len.branch [
      | else-place-len-via-then-place-len+else-is w ↦ λ same.
          let one : w.index.result.now ≡ row = w.index.ensures ∙ read_again _ _ _ row within found in
          let held = w.is.ensures.same.1 (ap (λ (r : Row). r.word) one ∙ same) in
          let not_held = w.if-is.false in cc
      | else-place-len-via-else-place-len w ↦ absurd (omega arith)
    ])
    (rw c.in_ok-word.ensures at c.in_ok-insert.ensures.items)
