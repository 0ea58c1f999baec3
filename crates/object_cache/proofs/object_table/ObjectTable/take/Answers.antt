use Rattle.std.proofs.Common.{[], not, arith}
use Rattle.object_cache.specs.ObjectTable.{is_of}
use Rattle.object_cache.proofs.TableLemmas.{apart_filter, passed_seen}
use Rattle.object_cache.proofs.object_table.ObjectTable.take.Goals as goal

pub invariant_of-self : goal.invariant_of-self
invariant_of-self c =
    let i = c.self.invariant in
    let less = c.take_key.ensures.lower in (
      c.take_key.ensures.sum,
      omega (arith, less, i.1),
      rw c.take_key.ensures.row (apart_filter (λ o. not (is_of c.args.key.now o)) [] c.self.inside.row.items i.2),
    )

pub returns-clause-passed : goal.returns-clause-passed
returns-clause-passed c =
    passed_seen c.args.self.now c.self.inside.row c.take_key.new.row c.self.inside.limit c.self.view_is c.take_key.ensures.passed
