use Rattle.std.proofs.Common.{find, ap, ◌∙◌}
use Rattle.rows.specs.Row.{RowSeen}
use Rattle.object_cache.specs.declared.object.Object.{Object}
use Rattle.object_cache.specs.ObjectTable.{is_of}
use Rattle.object_cache.proofs.TableLemmas.{none_other, none_evicted}
use Rattle.object_cache.proofs.object_table.replace.Goals as goal

pub push-requires-clause-absent : goal.push-requires-clause-absent
push-requires-clause-absent c =
    let test = is_of c.args.object.key in
    ap (λ (v : RowSeen Object). find test v.items) c.evict.ensures.row
    ∙ none_evicted test c.args.most c.take_key.new.row.items
    (ap (λ (v : RowSeen Object). find test v.items) c.take_key.ensures.row ∙ none_other test c.args.row.now.items)
