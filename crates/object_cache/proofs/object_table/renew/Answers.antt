use Rattle.std.proofs.Common.{◌-◌, sym, ap, ◌∙◌, find}
use Rattle.rows.specs.Row.{RowSeen}
use Rattle.object_cache.specs.declared.object.Object.{Object}
use Rattle.object_cache.specs.ObjectTable.{is_of}
use Rattle.object_cache.proofs.TableLemmas.{none_renewed, passed_both, passed_same}
use Rattle.object_cache.proofs.object_table.renew.Goals as goal

pub push-requires-clause-absent : goal.push-requires-clause-absent
push-requires-clause-absent c =
    let o = c.in-Some.object in
    ap (λ (v : RowSeen Object). find (is_of o.key) v.items) c.take.ensures.after
    ∙ none_renewed c.args.key.now c.args.begun c.args.row.now.items o (sym c.in-Some.ensures.found)

pub returns-in-Some-clause-passed : goal.returns-in-Some-clause-passed
returns-in-Some-clause-passed c =
    passed_both c.args.row.now c.take.new.self c.push.new.self c.take.ensures.passed c.push.ensures.passed

pub returns-in-None-clause-passed : goal.returns-in-None-clause-passed
returns-in-None-clause-passed c =
    passed_both c.args.row.now c.take.new.self c.give_back.new.self c.take.ensures.passed
    (passed_same c.take.new.self c.give_back.new.self (c.take.new.self.spare - 1) c.give_back.ensures)
