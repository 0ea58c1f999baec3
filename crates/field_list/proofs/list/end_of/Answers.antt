use Rattle.std.proofs.Common.{arith, sym, ◌∙◌}
use Rattle.std.proofs.lemmas.List.Sums.{suffix_len_is}
use Rattle.field_list.specs.List.{is_blank}
use Rattle.field_list.proofs.list.end_of.Goals as goal

pub returns-else-is_blank-clause-value : goal.returns-else-is_blank-clause-value
returns-else-is_blank-clause-value c =
    let is = suffix_len_is is_blank c.args.text.now c.blanks.end 0 c.blanks.invariant.within c.blanks.invariant.blank (λ some. sym c.is_blank.ensures ∙ c.if-is_blank.false) in
    omega (arith, is, c.blanks.invariant.within)

pub returns-after-blanks-clause-value : goal.returns-after-blanks-clause-value
returns-after-blanks-clause-value c =
    let is = suffix_len_is is_blank c.args.text.now c.blanks.end 0 c.blanks.invariant.within c.blanks.invariant.blank (λ some. absurd (omega (arith, some, c.blanks-test.false))) in
    omega (arith, is, c.blanks.invariant.within)
