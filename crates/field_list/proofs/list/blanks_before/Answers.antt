use Rattle.std.proofs.Common.{arith, sym, ◌∙◌}
use Rattle.std.proofs.lemmas.List.Sums.{prefix_len_is}
use Rattle.field_list.specs.List.{is_blank}
use Rattle.field_list.proofs.list.blanks_before.Goals as goal

pub returns-else-is_blank-clause-value : goal.returns-else-is_blank-clause-value
returns-else-is_blank-clause-value c =
    sym (prefix_len_is is_blank c.args.text.now c.blanks.count 0 c.blanks.invariant.within c.blanks.invariant.blank (λ within. sym c.is_blank.ensures ∙ c.if-is_blank.false))

pub returns-after-blanks-clause-value : goal.returns-after-blanks-clause-value
returns-after-blanks-clause-value c =
    sym (prefix_len_is is_blank c.args.text.now c.blanks.count 0 c.blanks.invariant.within c.blanks.invariant.blank (λ within. absurd (omega (arith, within, c.blanks-test.false))))
