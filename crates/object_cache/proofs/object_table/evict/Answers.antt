use Rattle.std.proofs.Common.{◌≡◌, ◌≤◌, arith, sym, ◌∙◌}
use Rattle.object_cache.specs.ObjectTable.{evicted, total}
use Rattle.object_cache.proofs.TableLemmas.{evicted_none}
use Rattle.object_cache.proofs.object_table.evict.Goals as goal

pub returns-clause-row : goal.returns-clause-row
returns-clause-row c =
    let v = c.evict.invariant in
    let few : total c.evict.row.items ≤ c.args.most = omega (arith, c.evict-test.false, v.sum) in
    let stay : c.evict.row.items ≡ evicted c.args.most c.args.row.now.items = sym (evicted_none c.args.most c.evict.row.items few) ∙ v.stay in
    λ i. record { items = stay i; spare = v.spare i; passed = c.evict.row.passed }
