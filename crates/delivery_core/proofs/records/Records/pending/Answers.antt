use Rattle.std.proofs.Common.{arith}
use Rattle.delivery_core.proofs.records.Records.pending.Goals as goal

pub overflow_add-result : goal.overflow_add-result
overflow_add-result c =
    let i = c.self.invariant in
    let few = i.2 in
    let kept = i.3 in
    omega (arith, few, kept, c.len.ensures, c.len-2.ensures)
