use Rattle.std.proofs.Common.{sym, ◌∙◌}
use Rattle.std.proofs.lemmas.Bool.{cond-true, cond-false}
use Rattle.listing.proofs.Decimals.{some_decimal, decimal_some}
use Rattle.listing.proofs.number.read_decimal.Goals as goal

pub returns-then-is_unpadded-clause-written : goal.returns-then-is_unpadded-clause-written
returns-then-is_unpadded-clause-written c =
    some_decimal _ _ (c.read_digits.ensures ∙ sym (cond-true _ _ _ (sym c.is_unpadded.ensures ∙ c.if-is_unpadded.true)))

pub returns-then-is_unpadded-clause-complete : goal.returns-then-is_unpadded-clause-complete
returns-then-is_unpadded-clause-complete c =
    decimal_some _ _ (c.read_digits.ensures ∙ sym (cond-true _ _ _ (sym c.is_unpadded.ensures ∙ c.if-is_unpadded.true)))

pub returns-else-is_unpadded-clause-complete : goal.returns-else-is_unpadded-clause-complete
returns-else-is_unpadded-clause-complete c =
    decimal_some c.args.text.now _ (sym (cond-false _ _ _ (sym c.is_unpadded.ensures ∙ c.if-is_unpadded.false)))
