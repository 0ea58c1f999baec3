use Rattle.std.proofs.Common.{◌≡◌, ℕ, ◌-◌, true, List, [], ◌∷◌, ◌++◌, ap, ◌∙◌, arith, rules}
use Rattle.rows.specs.Row.{RowSeen}
use Rattle.object_cache.specs.declared.object.Object.{Object}
use Rattle.object_cache.specs.ObjectTable.{Kept, evicted, filled, is_filled, others}
use Rattle.object_cache.proofs.TableLemmas.{kept, apart_filled, filled_small, filled_true}
use Rattle.object_cache.proofs.object_table.ObjectTable.fill_reserved.Goals as goal

pub returns-clause-after : goal.returns-clause-after
returns-clause-after c =
    let i = c.self.inside in
    let object = c.args.object in
    let stays : is_filled i.limit i.row.items object ≡ true = search rules in
    ap (λ (v : RowSeen Object). kept i.limit v.items v.spare v.passed) c.replace.ensures.row
    ∙ ap (λ (n : ℕ). kept i.limit (evicted (i.limit - n) (others object.key i.row.items) ++ object ∷ []) (i.row.spare - 1) c.replace.new.row.passed) c.body_length.ensures
    ∙ ap (λ (xs : List Object). kept i.limit xs (i.row.spare - 1) c.replace.new.row.passed) (filled_true i.limit i.row.items object stays)
    ∙ ap (λ (v : Kept). kept v.limit (filled v.limit v.objects object) (v.spare - 1) c.replace.new.row.passed) c.self.view_is

pub invariant_of-self-2 : goal.invariant_of-self-2
invariant_of-self-2 c =
    let i = c.self.inside in
    let object = c.args.object in
    let stays : is_filled i.limit i.row.items object ≡ true = search rules in
    let small = filled_small i.limit i.row.items object stays in
    let within = c.replace.ensures.within in (
      c.replace.ensures.sum,
      omega (arith, small, within, c.body_length.ensures),
      rw c.replace.ensures.row (apart_filled (i.limit - c.body_length.result) i.row.items object c.self.invariant.2),
    )
