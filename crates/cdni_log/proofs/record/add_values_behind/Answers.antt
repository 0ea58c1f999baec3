use Rattle.std.proofs.Common.{◌+◌, drop, arith}
use Rattle.cdni_log.proofs.ColumnLemmas.{values_go_on, values_are_out, drop_at}
use Rattle.cdni_log.proofs.record.add_values_behind.Goals as goal

pub fields-preserved : goal.fields-preserved
fields-preserved c =
    let field = c.field-item.result in
    let columns = drop (c.fields.field-index + 1) c.args.fields.now in
    let next = drop_at c.args.fields.now c.fields.field-index field c.fields-test.true c.field-item.is in
    record {
      few = omega (arith, c.fields.invariant.few, c.header_count-so_far.ensures.few);
      rest = rw c.header_count-so_far.ensures.count (values_go_on c.args.row.now c.fields.so_far field columns _ _ _ _ _ next c.fields.invariant.rest c.in_ok-extend_from_slice.ensures.items c.in_ok-add_value.ensures);
    }

pub returns : goal.returns
returns c =
    values_are_out c.args.row.now c.fields.so_far c.fields.field-index c.args.fields.now _ _ c.fields-test.false c.fields.invariant.rest
