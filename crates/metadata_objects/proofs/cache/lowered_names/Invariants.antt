use Rattle.std.proofs.Common.{◌≡◌, map, take}
use Rattle.std.specs.Str.{str_to_ascii_lowercase}
use Rattle.metadata_objects.proofs.cache.lowered_names.Given as goal

abbrev pub invariant-names : goal.invariant-names
invariant-names l = l.list ≡ map str_to_ascii_lowercase (take l.name-index l.names)
