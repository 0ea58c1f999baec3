use Rattle.std.proofs.Common.{[], arith}
use Rattle.object_cache.proofs.TableLemmas.{apart_remove, total_remove}
use Rattle.object_cache.proofs.object_table.ObjectTable.take_next.Goals as goal

pub overflow_sub-self : goal.overflow_sub-self
overflow_sub-self c =
    let i = c.self.inside in
    let less = total_remove i.row.items i.row.passed c.take_next-object.result c.take_next-object.ensures.out in
    omega (arith, less, c.self.invariant.0, c.body_length.ensures)

pub invariant_of-self : goal.invariant_of-self
invariant_of-self c =
    let i = c.self.inside in
    let less = total_remove i.row.items i.row.passed c.take_next-object.result c.take_next-object.ensures.out in
    rw (c.take_next-object.ensures.after) (
      omega (arith, less, c.self.invariant.0, c.body_length.ensures),
      omega (arith, c.self.invariant.1),
      apart_remove [] i.row.items i.row.passed c.self.invariant.2,
    )
