use Rattle.std.proofs.Common.{◌≡◌, ◌++◌, map, take}
use Rattle.cdni_log.specs.Field.{field_name}
use Rattle.cdni_log.specs.Line.{tabbed_behind}
use Rattle.log_audit.proofs.head.add_names_behind.Given as goal

abbrev pub invariant-fields : goal.invariant-fields
invariant-fields l = l.out.items ≡ l.initial.out.items ++ tabbed_behind (map field_name (take l.field-index l.fields))
