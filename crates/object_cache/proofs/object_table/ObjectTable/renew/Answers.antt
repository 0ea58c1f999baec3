use Rattle.std.proofs.Common.{take, sym, ap, ◌∙◌}
use Rattle.std.proofs.lemmas.List.Elements.{All-contains_itself}
use Rattle.rows.specs.Row.{RowSeen}
use Rattle.object_cache.specs.declared.object.Object.{Object}
use Rattle.object_cache.specs.ObjectTable.{total}
use Rattle.object_cache.proofs.TableLemmas.{apart_renewed, passed_both, passed_same, passed_seen}
use Rattle.object_cache.proofs.object_table.ObjectTable.renew.Goals as goal

pub invariant_of-self-2 : goal.invariant_of-self-2
invariant_of-self-2 c =
    let i = c.self.invariant in
    let same = ap (λ (v : RowSeen Object). total v.items) c.in_ok-reserve.ensures.places in (
      i.0 ∙ sym same ∙ sym c.renew.ensures.total,
      i.1,
      rw (c.renew.ensures.row, c.in_ok-reserve.ensures.places) (apart_renewed c.args.key.now c.args.begun c.self.inside.row.items i.2),
    )

pub returns-in_default-clause-passed : goal.returns-in_default-clause-passed
returns-in_default-clause-passed c = All-contains_itself (take c.args.self.now.passed c.args.self.now.objects)

pub returns-in_err-reserve-clause-passed : goal.returns-in_err-reserve-clause-passed
returns-in_err-reserve-clause-passed c =
    let i = c.self.inside in
    passed_seen c.args.self.now i.row c.reserve.new.self i.limit c.self.view_is
    (passed_same i.row c.reserve.new.self i.row.spare c.in_err-reserve.ensures.refused)

pub returns-clause-passed : goal.returns-clause-passed
returns-clause-passed c =
    let i = c.self.inside in
    passed_seen c.args.self.now i.row c.renew.new.row i.limit c.self.view_is
    (passed_both i.row c.reserve.new.self c.renew.new.row
    (passed_same i.row c.reserve.new.self c.reserve.new.self.spare (c.in_ok-reserve.ensures.places ∙ ap (λ (v : RowSeen Object). record i.row { spare = v.spare }) (sym c.in_ok-reserve.ensures.places)))
    c.renew.ensures.passed)
