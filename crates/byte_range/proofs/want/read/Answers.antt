use Rattle.std.proofs.Common.{sym, ◌∙◌}
use Rattle.std.proofs.lemmas.Bool.{cond-true, cond-false}
use Rattle.std.proofs.lemmas.List.{take_rest}
use Rattle.byte_range.specs.declared.want.Want.TheVariants.{All}
use Rattle.byte_range.specs.Want.{has_unit}
use Rattle.byte_range.proofs.RangeLemmas.{Reads-from}
use Rattle.byte_range.proofs.want.read.Goals as goal

pub returns-then-has_unit-clause-grammar : goal.returns-then-has_unit-clause-grammar
returns-then-has_unit-clause-grammar c =
    let set = rw take_rest at c.set_of.ensures in
    Reads-from c.args.header.now c.set_of.result (cond-true (has_unit c.args.header.now) _ _ (sym c.has_unit.ensures ∙ c.if-has_unit.true) ∙ sym set)

pub returns-else-has_unit-clause-grammar : goal.returns-else-has_unit-clause-grammar
returns-else-has_unit-clause-grammar c =
    Reads-from c.args.header.now All (cond-false (has_unit c.args.header.now) _ _ (sym c.has_unit.ensures ∙ c.if-has_unit.false))
