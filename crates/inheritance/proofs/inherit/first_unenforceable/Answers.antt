use Rattle.std.proofs.Common.{map, sym, ◌∙◌}
use Rattle.metadata_objects.specs.GenericList.{is_unenforceable}
use Rattle.inheritance.proofs.NoneLemmas.{effective_none}
use Rattle.inheritance.proofs.inherit.first_unenforceable.Goals as goal

pub returns-then-not-has_unenforceable : goal.returns-then-not-has_unenforceable
returns-then-not-has_unenforceable c =
    sym (effective_none is_unenforceable (map (λ objects. objects.now) c.args.arrays.now) (sym c.has_unenforceable.ensures ∙ c.if-not-has_unenforceable.true))
