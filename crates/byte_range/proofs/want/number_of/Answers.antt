use Rattle.std.proofs.Common.{sym, ◌∙◌}
use Rattle.byte_range.proofs.RangeLemmas.{digits_more, digits_none, value_more, number_of-none}
use Rattle.byte_range.proofs.want.number_of.Goals as goal

pub returns-then-not-is_ascii_digit : goal.returns-then-not-is_ascii_digit
returns-then-not-is_ascii_digit c =
    sym (number_of-none c.args.digits.now (digits_none c.args.digits.now c.digits.digit-index c.digits-test.true (sym c.is_ascii_digit.ensures.value ∙ c.if-not-is_ascii_digit.true)))

pub digits-preserved : goal.digits-preserved
digits-preserved c =
    let digit = sym c.is_ascii_digit.ensures.value ∙ c.if-not-is_ascii_digit.false in
    record {
      digits = digits_more c.args.digits.now c.digits.digit-index c.digits-test.true c.digits.invariant.digits digit;
      number = rw (c.saturating_add-number.ensures, c.saturating_mul.ensures, c.from.ensures) (value_more c.args.digits.now c.digits.digit-index c.digits.number c.digits-test.true digit c.digits.invariant.number);
    }
