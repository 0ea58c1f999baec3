use Rattle.std.proofs.Common.{◌≡◌, ◌+◌, length, Some}
use Rattle.std.specs.Option.{option_map, option_map_or}
use Rattle.cdni_log.specs.FieldList.{named, names_in}
use Rattle.cdni_log.proofs.FieldListLemmas.{behind}
use Rattle.cdni_log.proofs.field_list.read_names.Given as goal

abbrev pub invariant-names : goal.invariant-names
invariant-names l = behind l.fields (named (names_in l.between (option_map (λ bytes. bytes.now) l.rest))) ≡ named (names_in l.between (Some l.text))

abbrev pub decreases-names : goal.decreases-names
decreases-names l = option_map_or (λ bytes. length bytes.now + 1) l.rest 0
