use Rattle.std.proofs.Common.{arith}
use Rattle.std.proofs.lemmas.Grind.{common_steps}
use Rattle.object_cache.proofs.TableLemmas.{apart_moved, passed_seen}
use Rattle.object_cache.proofs.object_table.ObjectTable.touch.Goals as goal

pub invariant_of-self : goal.invariant_of-self
invariant_of-self c =
    let i = c.self.invariant in (
      grind (arith, common_steps),
      i.1,
      rw c.touch.ensures.after (apart_moved c.args.key.now _ i.2),
    )

pub returns-clause-passed : goal.returns-clause-passed
returns-clause-passed c =
    passed_seen c.args.self.now c.self.inside.row c.touch.new.self c.self.inside.limit c.self.view_is c.touch.ensures.passed
