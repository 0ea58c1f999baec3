use Rattle.std.proofs.Common.{◌≡◌, ◌++◌, take}
use Rattle.std.specs.List.{flat_map}
use Rattle.cdni_log.specs.Row.{record_text}
use Rattle.cdni_log.proofs.file.add_records.Given as goal

abbrev pub invariant-rows : goal.invariant-rows
invariant-rows l = l.out.items ≡ l.initial.out.items ++ flat_map (record_text l.fields) (take l.row-index l.rows)
