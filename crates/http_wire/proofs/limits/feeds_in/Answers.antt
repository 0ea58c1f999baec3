use Rattle.std.proofs.Common.{arith}
use Rattle.http_wire.proofs.LimitLemmas.{feeds_cut, feeds_none}
use Rattle.http_wire.proofs.limits.feeds_in.Goals as goal

pub lines-preserved : goal.lines-preserved
lines-preserved c =
    let cut = feeds_cut _ _ _ (rw c.in-Some.is at c.cut_at.ensures) in
    record {
      so_far = omega (arith, cut.0, c.lines.invariant.so_far);
      within = omega (arith, cut.1, c.lines.invariant.within);
    }

pub lines-smaller : goal.lines-smaller
lines-smaller c = (feeds_cut _ _ _ (rw c.in-Some.is at c.cut_at.ensures)).1

pub overflow_add-count : goal.overflow_add-count
overflow_add-count c =
    let cut = feeds_cut _ _ _ (rw c.in-Some.is at c.cut_at.ensures) in omega (arith, cut.1, c.lines.invariant.within)

pub returns-in-None : goal.returns-in-None
returns-in-None c = omega (arith, feeds_none _ (rw c.in-None.is at c.cut_at.ensures), c.lines.invariant.so_far)
