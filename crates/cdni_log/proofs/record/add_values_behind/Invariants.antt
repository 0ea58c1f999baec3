use Rattle.std.proofs.Common.{◌≡◌, ◌≤◌, ◌+◌, ◌++◌, drop}
use Rattle.cdni_log.specs.Line.{tabbed_behind}
use Rattle.cdni_log.specs.Row.{values_from}
use Rattle.cdni_log.proofs.record.add_values_behind.Given as goal

abbrev pub invariant-fields : goal.invariant-fields
invariant-fields l = record {
  few : l.so_far ≤ l.field-index + 1;
  rest : l.out.items ++ tabbed_behind (values_from l.row l.so_far (drop l.field-index l.fields))
      ≡ l.initial.out.items ++ tabbed_behind (values_from l.row l.headers l.fields);
}
